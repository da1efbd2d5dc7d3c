-- The steps of a run (document 01, "Modes, stack, sleep").
use Rattle.std.specs.Prelude.{ℕ, zero, suc, ◌+◌, Bool, true, ◌&&◌, List, get_or, Result, Ok, Err}
use Rattle.isa.specs.Refusals.{Answer, Ended, done, refused, answered}
use Rattle.isa.specs.Sources.{names_only_sources}
use Rattle.alu.specs.declared.Flags.{Flags}
use Rattle.isa.specs.declared.Refusal.{Refusal}
use Rattle.control.specs.declared.Mode.{Mode}
use Rattle.machine.specs.declared.FlagPairs.{FlagPairs}
use Rattle.machine.specs.declared.Machine.{Machine}
use Rattle.machine.specs.declared.After.{After}
use Rattle.machine.specs.declared.Progress.{Progress}
use Rattle.machine.specs.declared.Report.{Report}
use Rattle.machine.specs.Pairs.{with_pair_of}
use Rattle.machine.specs.State.{machine_of}
use Rattle.machine.specs.Advance.{Step}
use Rattle.machine.specs.Step.{step_of}

-- "reports steps completed and cycles", and how the run ended
pub record Reported : Type 0 where
  pub steps : ℕ
  pub cycles : ℕ
  pub ending : Ended

abbrev pub report_of : Report → Reported
report_of r = record { steps = r.steps; cycles = r.cycles; ending = answered r.ending }

-- a machine after a run, and the run's report
pub record Run : Type 0 where
  pub machine : Machine
  pub report : Reported

abbrev pub ran_of : After Report → Run
ran_of r = record { machine = r.machine; report = report_of r.report }

-- the program's answer, with the bytes and the stack that it was lent
abbrev pub progress_as : (bytes stack : List ℕ) → Progress FlagPairs Report → Run
progress_as bytes stack p =
    record { machine = machine_of p.control stack p.flags bytes; report = report_of p.report }

-- the same of steps in one mode, whose flags are the pair of that mode
abbrev pub part_as : FlagPairs → Mode → (bytes stack : List ℕ) → Progress Flags Report → Run
part_as pairs mode bytes stack p = record {
  machine = machine_of p.control stack (with_pair_of pairs mode p.flags) bytes;
  report = report_of p.report;
}

-- how many steps of a run of n are settled with a part of it: a stop settles all
abbrev pub settled_by : Result (Unit {0}) Refusal → (steps n : ℕ) → ℕ
settled_by (Ok u) steps n = steps
settled_by (Err r) steps n = n

abbrev pub settled : Report → (n : ℕ) → ℕ
settled r n = settled_by r.ending r.steps n

-- a machine and how far a run is, and how it ended
abbrev pub run_at : Machine → (steps cycles : ℕ) → Ended → Run
run_at m steps cycles ending =
    record { machine = m; report = record { steps = steps; cycles = cycles; ending = ending } }

-- a run and the step after it: a completed step counts, with its cycles; "It ends early only where a step stops"
abbrev pub joined_by : Run → Machine → Answer ℕ → Run
joined_by r m (done cycles) = run_at m (r.report.steps + 1) (r.report.cycles + cycles) (done tt)
joined_by r m (refused n) = run_at m r.report.steps r.report.cycles (refused n)

abbrev pub joined_of : Run → Step → Run
joined_of r s = joined_by r s.machine s.answer

-- a run that has ended stays
abbrev pub continued_by : (image : List ℕ) → Run → (request : ℕ) → Ended → Run
continued_by image r request (done tt) = joined_of r (step_of image r.machine request)
continued_by image r request (refused n) = r

abbrev pub continued_of : (image : List ℕ) → Run → (request : ℕ) → Run
continued_of image r request = continued_by image r request r.report.ending

-- "n single steps, with request byte i at step i and none past the lent list's end"
unfoldable pub steps_of : (image requests : List ℕ) → Machine → (n : ℕ) → Run
steps_of image requests m zero = run_at m 0 0 (done tt)
steps_of image requests m (suc n) = continued_of image (steps_of image requests m n) (get_or requests n 0)

-- not "11 among the list's first n bytes"; past its end the byte is 0
unfoldable pub requests_fit : (requests : List ℕ) → (n : ℕ) → Bool
requests_fit requests zero = true
requests_fit requests (suc n) = names_only_sources (get_or requests n 0) && requests_fit requests n
