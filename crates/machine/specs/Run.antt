-- A run (document 01, "Run").
use Rattle.std.specs.Prelude.{ℕ, List, length, leb}
use Rattle.isa.specs.Refusals.{Numbered, plain, refused, unless}
use Rattle.isa.specs.Rom.{is_image}
use Rattle.machine.specs.declared.Machine.{Machine}
use Rattle.machine.specs.State.{is_well_formed}
use Rattle.machine.specs.Steps.{run_at}
pub use Rattle.machine.specs.Steps.{report_of, Run, ran_of, joined_by, continued_by, continued_of}
unfoldable pub use Rattle.machine.specs.Steps.{steps_of, requests_fit}

-- "these report 0 steps, 0 cycles"
abbrev pub refused_run : Machine → Numbered → Run
refused_run m r = run_at m 0 0 (refused r)

-- "Run: 1, 2, 12 (more than 65,535 steps), 11 among the list's first n bytes"
unfoldable pub run_of : (image : List ℕ) → Machine → (requests : List ℕ) → (n : ℕ) → Run
run_of image m requests n =
    unless (is_image (length image)) (refused_run m (plain 1))
    (unless (is_well_formed m) (refused_run m (plain 2))
    (unless (leb n 65535) (refused_run m (plain 12))
    (unless (requests_fit requests n) (refused_run m (plain 11))
    (steps_of image requests m n))))
