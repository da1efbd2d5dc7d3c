-- Laws of a test at every index below a number.
use Prim.Native.Nat.{ℕ, zero, suc, ◌<◌}
use native.Mathlib.Omega.{arith}
use mathlib.Core.Path.{◌≡◌, refl}
use mathlib.Core.Bool.{Bool, true, and-eq-true_iff}
use borrow.Author.Count.{below_more}
use Rattle.exports.specs.Every.{every}

module _ (test : ℕ → Bool) where
  pub every_when : (n : ℕ) → ((k : ℕ) → k < n → test k ≡ true) → every test n ≡ true
  unfolding every
  every_when zero holds = refl
  every_when (suc n) holds = rw (holds n (omega arith)) (every_when n (λ k h. holds k (omega arith)))

  pub every_holds : (n : ℕ) → every test n ≡ true → (k : ℕ) → k < n → test k ≡ true
  unfolding every
  every_holds zero all k h = absurd (omega arith)
  every_holds (suc n) all k h =
      let p : (test n ≡ true) × (every test n ≡ true) = (and-eq-true_iff (test n) (every test n)).0 all in
      below_more (λ j. test j ≡ true) n (every_holds n p.1) p.0 k (omega arith)
