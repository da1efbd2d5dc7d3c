-- Steps and runs of an accepted image from frames: refusals 1 and 2 are never given, and a step or a run that is not
-- refused goes on.
use Prim.Native.Nat.{ℕ, zero, suc, ◌<◌}
use native.Mathlib.Omega.{arith}
use mathlib.Core.Path.{◌≡◌, refl}
use mathlib.Core.Bool.{true, false}
use mathlib.Core.List.{List}
use lib.Dec.{leb}
use lib.ListN.{length, get_or}
use Rattle.isa.specs.Rom.{is_image}
use Rattle.isa.specs.Refusals.{plain, done, unless}
use Rattle.isa.specs.Sources.{names_only_sources}
use Rattle.machine.specs.declared.Machine.{Machine}
use Rattle.machine.specs.Step.{refused_of, action_of, acted_of, step_of}
use Rattle.machine.specs.Run.{Run, refused_run, continued_of, steps_of, requests_fit, run_of}
use Rattle.machine.proofs.StepByStep.{step_advances}
use Rattle.certificate.specs.Rules.{Rules}
use Rattle.bench.specs.Calls.{AsksOnly, FirstAskOnly}
use Rattle.bench.specs.StackEffect.{StackEffect, stack_effect_of}
use Rattle.bench.proofs.Invariant.{MachineInvariant, well_formed_lem}
use Rattle.bench.proofs.StepMoves.{Advances, invariant_after, advances}

-- the first n request bytes have none of bits 5 to 7
abbrev pub FirstKnown : (requests : List ℕ) → (n : ℕ) → Type 0
FirstKnown requests n = (i : ℕ) → i < n → names_only_sources (get_or requests i 0) ≡ true

-- n steps complete, and the machine has frames again
pub record AllGo (certificate : List ℕ) (wired n : ℕ) (r : Run) : Type 0 where
  pub ending : r.report.ending ≡ done tt
  pub all : r.report.steps ≡ n
  pub invariant : MachineInvariant certificate wired r.machine

module _ (image certificate : List ℕ) (wired number : ℕ) (ok : Rules image certificate wired number) where
  fits : is_image (length image) ≡ true
  fits = ok.image_length

  module _ (m : Machine) (g : MachineInvariant certificate wired m) where
    -- a step, where none of bits 5 to 7 is set and where one is
    pub step_goes : (request : ℕ) → names_only_sources request ≡ true → AsksOnly wired request
        → Advances certificate wired (stack_effect_of image m request) m (step_of image m request)
    step_goes request known asks =
        rw (step_advances image m request fits (well_formed_lem image certificate wired number ok m g) known)
        (advances image certificate wired number ok m g request asks)

    pub step_refused : (request : ℕ) → names_only_sources request ≡ false
        → step_of image m request ≡ refused_of m (plain 11)
    unfolding step_of action_of acted_of
    step_refused request unknown = rw (fits, well_formed_lem image certificate wired number ok m g, unknown)

    -- a run without 1 and 2
    pub run_is : (requests : List ℕ) (n : ℕ)
        → run_of image m requests n
        ≡ unless (leb n 65535) (refused_run m (plain 12))
        (unless (requests_fit requests n) (refused_run m (plain 11)) (steps_of image requests m n))
    unfolding run_of
    run_is requests n = rw (fits, well_formed_lem image certificate wired number ok m g)

  one_more : (n : ℕ) (r : Run) (request : ℕ) {d : StackEffect} → AllGo certificate wired n r
      → Advances certificate wired d r.machine (step_of image r.machine request)
      → AllGo certificate wired (suc n) (continued_of image r request)
  one_more n r request a s =
      rw (a.ending, s.done.answer)
      (record {
        ending = refl;
        all = omega (arith, a.all);
        invariant = invariant_after certificate wired s a.invariant;
      })

  -- the steps of a run that is not refused
  pub steps_go : (m : Machine) → MachineInvariant certificate wired m → (requests : List ℕ) (n : ℕ)
      → FirstKnown requests n → FirstAskOnly wired requests n
      → AllGo certificate wired n (steps_of image requests m n)
  unfolding steps_of
  steps_go m g requests zero known asks = record { ending = refl; all = refl; invariant = g }
  steps_go m g requests (suc n) known asks =
      let before = steps_go m g requests n (λ i h. known i (omega arith)) (λ i h. asks i (omega arith)) in
      one_more n (steps_of image requests m n) (get_or requests n 0) before
      (step_goes (steps_of image requests m n).machine before.invariant (get_or requests n 0) (known n (omega arith))
      (asks n (omega arith)))
