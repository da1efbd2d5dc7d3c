-- Demand 3 for the gauge: an accepted image is ready to be measured, with any count.
use Prim.Native.Nat.{ℕ}
use mathlib.Core.Path.{◌≡◌, sym, ap, ◌∙◌}
use mathlib.Core.Bool.{Bool, true, false, false≢true}
use lib.Dec.{leb}
use mathlib.Core.List.{List, [], ◌∷◌}
use native.Mathlib.Omega.{arith}
use lib.ListN.{length, replicate}
use Rattle.isa.specs.Refusals.{Numbered, plain, done, refused, unless}
use Rattle.machine.specs.State.{machine_of, is_well_formed, reset_control, cleared_pairs, reset_of, fresh_of, HostStore}
use Rattle.machine.specs.Refusals as why
use Rattle.machine.specs.Refusals.{StoreRefused}
use Rattle.machine.specs.Run.{run_of}
use Rattle.machine.proofs.Refusals.{store_refusals}
use Rattle.machine.proofs.StaysWellFormed.{stays_well_formed}
use Rattle.certificate.specs.Check.{check_of, accepted}
use Rattle.bench.specs.Calls.{Call, step, run, store, leaves}
use Rattle.bench.specs.Session.{AllKeep}
use Rattle.bench.proofs.Session.{never_stops}
use Rattle.bench.proofs.Unrolled.{none_asks}
use Rattle.gauge.specs.Sleep.{machine_after, AllDone, Ready}
use Rattle.gauge.specs.Width.{start_of, unpaged_check}
use Rattle.gauge.proofs.Steps.{StepKept, Fits, fits, is_done, run_as_steps}

module _ (image certificate : List ℕ) (levels : ℕ) (accepts : check_of image certificate 0 ≡ accepted levels)
    (count : ℕ) where
  -- the gauge's calls as demand 3 counts them, and a step more
  calls : ℕ → List Call
  calls n = store 0xC0 count ∷ run [] n ∷ step 0 ∷ []

  kept : (n : ℕ) → AllKeep image levels (calls n) fresh_of
  unfolding fresh_of calls
  kept n =
      (never_stops image certificate 0 levels accepts).1
      (machine_of reset_control (replicate 6 0) cleared_pairs (replicate 256 0)) (calls n)
      (tt, ((λ i l. none_asks 0), (none_asks 0, tt)))

  after_run : (n : ℕ) → StepKept image (run_of image (start_of count) [] n).machine
  unfolding calls leaves start_of
  after_run n = (kept n).2.2.1

  start_formed : is_well_formed (start_of count) ≡ true
  unfolding start_of fresh_of
  start_formed = stays_well_formed.by_store _ (stays_well_formed.by_reset _) 0xC0 count

  start_fits : Fits image (start_of count)
  start_fits = record { size = (fits image _ (after_run 0)).size; formed = start_formed }

  all_done : AllDone image (start_of count) 65535
  all_done n h =
      is_done image (machine_after image (start_of count) n)
      (rw (run_as_steps image (start_of count) start_fits n (omega arith)) at (after_run n))

  -- the store is done: a fresh machine is well formed, and 0C0h lies outside the window
  stored : (r : Numbered) → StoreRefused fresh_of 0xC0 r → ⊥
  unfolding fresh_of
  stored _ (why.ill_formed w) = false≢true (sym w ∙ stays_well_formed.by_reset _)
  stored _ (why.window_address w low high) = omega arith

  start_awake : (start_of count).control.asleep ≡ false
  unfolding start_of fresh_of reset_of
  start_awake =
      ap (λ (s : HostStore). s.machine.control.asleep) (store_refusals.done_else fresh_of 0xC0 count stored)

  pub ready : Ready image (start_of count)
  ready = record { awake = start_awake; all_done = all_done }

-- an image that the gauge takes is checked
pub checked : (image certificate : List ℕ) {levels : ℕ} → unpaged_check image certificate ≡ done levels
    → check_of image certificate 0 ≡ done levels
checked image certificate {levels} e = by_length (leb (length image) 4096) e
  where
    by_length : (b : Bool) → unless b (refused (plain 1)) (check_of image certificate 0) ≡ done levels
        → check_of image certificate 0 ≡ done levels
    by_length true e = e
    by_length false e = cc
