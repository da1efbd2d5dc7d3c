-- The width for a slide count (document 02, W-201).
use Rattle.std.specs.Prelude.{ℕ, List, leb, length}
use Rattle.isa.specs.Refusals.{plain, Answer, done, refused, unless}
use Rattle.machine.specs.declared.Machine.{Machine}
use Rattle.machine.specs.State.{fresh_of, host_store_of}
use Rattle.certificate.specs.Check.{Verdict, check_of}
use Rattle.gauge.specs.Sleep.{Size, size_of}

-- "It starts a fresh machine, stores the count at 0C0h": by the host store
unfoldable pub start_of : (count : ℕ) → Machine
start_of count = (host_store_of fresh_of 0xC0 count).machine

-- "It refuses with 23 when the check [..] refuses, before any step": whatever that refuses with
abbrev pub width_by : (image : List ℕ) → (count : ℕ) → Verdict → Answer Size
width_by image count (done levels) = size_of image (start_of count)
width_by image count (refused r) = refused (plain 23)

-- ".. the check with nothing wired": the wired byte is 0. The gauge stays unpaged: "an image above 4,096 bytes gives
-- 23" (W-210), as one whose length the check refuses
abbrev pub unpaged_check : (image certificate : List ℕ) → Verdict
unpaged_check image certificate = unless (leb (length image) 4096) (refused (plain 1)) (check_of image certificate 0)

unfoldable pub width_of : (image certificate : List ℕ) → (count : ℕ) → Answer Size
width_of image certificate count = width_by image count (unpaged_check image certificate)
