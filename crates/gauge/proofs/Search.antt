-- The search for the first sleep finds it where there is one, and answers 24 where there is none.
use Prim.Native.Nat.{ℕ, zero, suc, ◌+◌, ◌<◌}
use mathlib.Core.Path.{◌≡◌, refl, sym, ap, ◌∙◌}
use mathlib.Core.Logic.{◌⊎◌, inl, inr}
use mathlib.Core.Bool.{Bool, true, false}
use mathlib.Core.List.{List}
use native.Mathlib.Omega.{arith}
use native.Mathlib.Nat.{add-zero, add-suc, suc-add}
use Rattle.isa.specs.Refusals.{plain, Answer, done, refused}
use Rattle.machine.specs.declared.Machine.{Machine}
use Rattle.gauge.specs.Sleep.{
  machine_after,
  asleep_after,
  AsleepAfter,
  AwakeAfter,
  width_shown,
  Size,
  size_as,
  size_from,
}

module _ (image : List ℕ) (m : Machine) where
  -- awake after each of so many steps from step n on
  abbrev pub AwakeFrom : (n steps : ℕ) → Type 0
  AwakeFrom n steps = (d : ℕ) → d < steps → AwakeAfter image m (n + d)

  -- of so many steps from step n on, the first after which the machine sleeps
  pub record FirstFrom (n left : ℕ) : Type 0 where
    pub distance : ℕ
    pub within : distance < left
    pub awake : AwakeFrom n distance
    pub asleep : AsleepAfter image m (n + distance)

  -- what is answered for it
  abbrev pub size_at : ℕ → Answer Size
  size_at s = done (size_as (width_shown (machine_after image m s)) s)

  next : (n d : ℕ) → suc n + d ≡ n + suc d
  next n d = suc-add n d ∙ sym (add-suc n d)

  at_next : (n d : ℕ) → asleep_after image m (suc n + d) ≡ asleep_after image m (n + suc d)
  at_next n d = ap (asleep_after image m) (next n d)

  pub finds :
      (n left d : ℕ) → d < left → AwakeFrom n d → AsleepAfter image m (n + d) → size_from image m n left ≡ size_at (n + d)
  unfolding size_from
  finds n zero d h awake asleep = absurd (omega arith)
  finds n (suc left) zero h awake asleep =
      let here : AsleepAfter image m n = rw (add-zero n) at asleep in
      rw here (ap size_at (sym (add-zero n)))
  finds n (suc left) (suc d) h awake asleep =
      let here : AwakeAfter image m n = rw (add-zero n) at (awake 0 (omega arith)) in
      rw here
      (finds (suc n) left d (omega arith) (λ j l. at_next n j ∙ awake (suc j) (omega arith)) (at_next n d ∙ asleep)
      ∙ ap size_at (next n d))

  pub finds_none : (n left : ℕ) → AwakeFrom n left → size_from image m n left ≡ refused (plain 24)
  unfolding size_from
  finds_none n zero awake = refl
  finds_none n (suc left) awake =
      let here : AwakeAfter image m n = rw (add-zero n) at (awake 0 (omega arith)) in
      rw here (finds_none (suc n) left (λ j l. at_next n j ∙ awake (suc j) (omega arith)))

  -- awake after step n, and after so many from the next on
  awake_too : (n steps : ℕ) → AwakeAfter image m n → AwakeFrom (suc n) steps → AwakeFrom n (suc steps)
  awake_too n steps here more zero h = rw (add-zero n) here
  awake_too n steps here more (suc d) h = sym (at_next n d) ∙ more d (omega arith)

  pub search_from : (n left : ℕ) → FirstFrom n left ⊎ AwakeFrom n left
  search_from n zero = inr (λ d h. absurd (omega arith))
  search_from n (suc left) = by_test (asleep_after image m n) refl (search_from (suc n) left)
    where
      later : AwakeAfter image m n → FirstFrom (suc n) left ⊎ AwakeFrom (suc n) left
          → FirstFrom n (suc left) ⊎ AwakeFrom n (suc left)
      later here (inl f) =
          inl (record {
            distance = suc f.distance;
            within = omega (arith, f.within);
            awake = awake_too n f.distance here f.awake;
            asleep = sym (at_next n f.distance) ∙ f.asleep;
          })
      later here (inr more) = inr (awake_too n left here more)

      by_test : (b : Bool) → asleep_after image m n ≡ b → FirstFrom (suc n) left ⊎ AwakeFrom (suc n) left
          → FirstFrom n (suc left) ⊎ AwakeFrom n (suc left)
      by_test true e more =
          inl (record {
            distance = 0;
            within = omega arith;
            awake = λ d h. absurd (omega arith);
            asleep = rw (add-zero n) e;
          })
      by_test false e more = later e more
