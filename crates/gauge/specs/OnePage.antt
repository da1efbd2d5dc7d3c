-- "Jobs and the gauge stay unpaged" (document 02, W-210): what the gauge answered, by its definition as it was.
use Rattle.std.specs.Prelude.{ℕ, zero, suc, ◌≡◌, cond, List, []}
use Rattle.isa.specs.Refusals.{plain, Answer, done, refused}
use Rattle.machine.specs.declared.Machine.{Machine}
use Rattle.machine.specs.OnePage.{steps_unpaged}
use Rattle.certificate.specs.Check.{Verdict}
use Rattle.certificate.specs.OnePage.{check_unpaged}
use Rattle.gauge.specs.Sleep.{Size, size_as, width_shown}
use Rattle.gauge.specs.Width.{start_of, width_of}

-- the machine after n steps without requests
abbrev pub after_unpaged : (image : List ℕ) → Machine → (n : ℕ) → Machine
after_unpaged image m n = (steps_unpaged image [] m n).machine

-- the first step after which it sleeps, of those from step n on
unfoldable pub size_unpaged : (image : List ℕ) → Machine → (n left : ℕ) → Answer Size
size_unpaged image m n zero = refused (plain 24)
size_unpaged image m n (suc left) =
    cond (after_unpaged image m n).control.asleep
    (done (size_as (width_shown (after_unpaged image m n)) n)) (size_unpaged image m (suc n) left)

-- the width for a count
abbrev pub width_by_unpaged : (image : List ℕ) → (count : ℕ) → Verdict → Answer Size
width_by_unpaged image count (done levels) = size_unpaged image (start_of count) 1 65535
width_by_unpaged image count (refused r) = refused (plain 23)

abbrev pub width_unpaged : (image certificate : List ℕ) → (count : ℕ) → Answer Size
width_unpaged image certificate count = width_by_unpaged image count (check_unpaged image certificate 0)

-- of every image, of whatever length: "an image above 4,096 bytes gives 23", as it did
-- proved by gauge_as_before, proofs/OnePage
abbrev pub GaugeAsBefore : Type 0
GaugeAsBefore =
    (image certificate : List ℕ) (count : ℕ) → width_of image certificate count ≡ width_unpaged image certificate count
