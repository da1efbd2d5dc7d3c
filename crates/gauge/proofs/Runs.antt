-- The first sleep of a machine that is looked at after every run of 1,285 steps only.
use Prim.Native.Nat.{ℕ, zero, suc, ◌+◌, ◌-◌, ◌<◌, ◌≤◌}
use mathlib.Core.Path.{◌≡◌, refl, sym, ap, ◌∙◌}
use mathlib.Core.Bool.{Bool, true, false, false≢true}
use mathlib.Core.List.{List, []}
use native.Mathlib.Omega.{arith}
use borrow.Author.Tests.{leb-true, leb-false}
use lib.Dec.{leb}
use Rattle.isa.specs.Refusals.{plain, done, refused}
use Rattle.machine.specs.declared.Machine.{Machine}
use Rattle.machine.specs.Run.{Run, run_of}
use Rattle.gauge.specs.Sleep.{
  machine_after,
  asleep_after,
  AsleepAfter,
  AwakeAfter,
  width_shown,
  size_as,
  size_of,
  Ready,
  SleepsWithin,
  SleepsFirst,
}
use Rattle.gauge.proofs.Sleeper.{further, run_further, rest_done, awake_before, found_after}
use Rattle.gauge.proofs.Search.{size_at, finds, finds_none}

module _ (image : List ℕ) (m : Machine) (ready : Ready image m) where
  pub never : AwakeAfter image m 65535 → size_of image m ≡ refused (plain 24)
  never awake =
      finds_none image m 1 65535
      (λ d h. awake_before image m 65535 ready.all_done (1 + d) 65535 (omega arith) (omega arith) awake)

  -- after n steps, with a run more to go
  module _ (n : ℕ) (room : n + 1285 ≤ 65535) (held : Machine) (is : held ≡ machine_after image m n) where
    -- the machine after the run
    pub run_on : (r : Run) → r ≡ run_of image held [] 1285 → r.machine ≡ machine_after image m (n + 1285)
    run_on r e =
        ap (λ (x : Run). x.machine) e ∙ ap (λ (x : Machine). (run_of image x [] 1285).machine) is
        ∙ run_further image m 65535 ready.all_done n 1285 (omega arith) (omega arith)

    -- whether it sleeps then, as the program finds it
    pub asleep_then : (r : Run) → r ≡ run_of image held [] 1285
        → asleep_after image m (n + 1285) ≡ r.machine.control.asleep
    asleep_then r e = found_after image m r.machine (n + 1285) (run_on r e)

    -- .. and after some of its steps
    on : (k : ℕ) → k ≤ 1285 → machine_after image held k ≡ machine_after image m (n + k)
    on k h =
        ap (λ (x : Machine). machine_after image x k) is
        ∙ further image m 65535 ready.all_done n k (omega arith)

    -- it is asleep after the run, so it falls asleep in it
    pub sleeps_within : AsleepAfter image m (n + 1285) → SleepsWithin image held 1285
    sleeps_within asleep =
        record {
          all_done = rw is (rest_done image m 65535 ready.all_done n 1285 room);
          asleep = ap (λ (x : Machine). x.control.asleep) (on 1285 (omega arith)) ∙ asleep;
        }

    module _ (awake : AwakeAfter image m n) (width steps : ℕ) (first : SleepsFirst image held 1285 width steps) where
      within : steps ≤ 1285
      within = first.within

      -- the steps before it are those of the runs before and of this one
      awake_until : (j : ℕ) → j < n + steps → AwakeAfter image m j
      awake_until j h = by_test (leb j n) refl
        where
          by_test : (b : Bool) → leb j n ≡ b → AwakeAfter image m j
          by_test true t =
              awake_before image m 65535 ready.all_done j n (leb-true j n t) (omega arith) awake
          by_test false t =
              let later : n < j = leb-false j n t in
              let whole : n + (j - n) ≡ j = omega (arith, later) in
              ap (asleep_after image m) (sym whole)
              ∙ sym (ap (λ (x : Machine). x.control.asleep) (on (j - n) (omega (arith, within))))
              ∙ first.awake (j - n) (omega (arith, later))

      asleep_now : AsleepAfter image m (n + steps)
      asleep_now = sym (ap (λ (x : Machine). x.control.asleep) (on steps within)) ∙ first.asleep

      -- it was awake before the first step
      some : (s : ℕ) → s ≡ steps → 1 ≤ n + s
      some zero e =
          let same : n + steps ≡ n = omega arith in
          absurd (false≢true (sym awake ∙ ap (asleep_after image m) (sym same) ∙ asleep_now))
      some (suc s) e = omega arith

      pub found : done (size_as width (n + steps)) ≡ size_of image m
      found =
          let least : 1 ≤ n + steps = some steps refl in
          let whole : 1 + (n + steps - 1) ≡ n + steps = omega (arith, least) in
          let size : size_of image m ≡ size_at image m (n + steps) =
          finds image m 1 65535 (n + steps - 1) (omega (arith, least, within))
          (λ d h. awake_until (1 + d) (omega (arith, least))) (ap (asleep_after image m) whole ∙ asleep_now)
          ∙ ap (size_at image m) whole in
          ap (λ (w : ℕ). done (size_as w (n + steps))) (first.shows ∙ ap width_shown (on steps within)) ∙ sym size
