-- An address that has a kind is marked, and is a program address.
use Prim.Native.Nat.{ℕ, ◌≤◌, ◌<◌}
use native.Mathlib.Omega.{arith}
use mathlib.Core.Path.{◌≡◌, refl}
use mathlib.Core.Bool.{Bool, true, false, cond, ◌&&◌}
use mathlib.Core.List.{List}
use lib.Dec.{ltb}
use borrow.Author.Tests.{ltb-true}
use Rattle.certificate.specs.Marks.{mark_at, Marked, kind_of, kind_at}

pub marked : (certificate : List ℕ) (a : ℕ) → 1 ≤ kind_at certificate a → Marked certificate a
unfolding kind_at
marked certificate a h e = let none : 1 ≤ kind_of 0 = rw e at h in omega arith

-- outside program space there is no mark
pub below : (certificate : List ℕ) (a : ℕ) → 1 ≤ kind_at certificate a → a < 0x1000
unfolding kind_at mark_at
below certificate a h = by_test _ _ (ltb a 4096) refl h
  where
    by_test : (t : Bool) (mark : ℕ) (b : Bool) → ltb a 4096 ≡ b → 1 ≤ kind_of (cond (b && t) mark 0) → a < 0x1000
    by_test t mark true e h = ltb-true a 4096 e
    by_test t mark false e h = absurd (omega arith)
