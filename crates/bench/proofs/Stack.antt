-- The return addresses in use after a push and a pop.
use Prim.Native.Nat.{ℕ, zero, suc, ◌+◌, ◌-◌, ◌≤◌, ◌<◌}
use native.Mathlib.Numerals.{add-one}
use native.Mathlib.Omega.{arith}
use mathlib.Core.Path.{◌≡◌, refl, ap, ap₂}
use mathlib.Core.Logic.{◌≢◌}
use mathlib.Core.Bool.{Bool}
use mathlib.Core.List.{List, ◌∷◌}
use lib.Dec.{eqb-suc-zero}
use lib.ListN.{length, get_or, set}
use lib.Seq.{get_or-set_same, get_or-set_other}
use Rattle.control.specs.declared.Mode.{Mode}
use Rattle.control.specs.declared.Control.{Control}
use Rattle.control.specs.Stack.{in_use, goes_on, pop_of}

pub length_in_use : (n : ℕ) (slots : List ℕ) → length (in_use n slots) ≡ n
length_in_use zero slots = refl
length_in_use (suc n) slots = ap suc (length_in_use n slots)

-- a store above the levels in use changes none of them
in_use_set : (k n a : ℕ) (slots : List ℕ) → k ≤ n → in_use k (set slots n a) ≡ in_use k slots
in_use_set zero n a slots h = refl
in_use_set (suc k) n a slots h =
    let other : k ≢ n = omega arith in
    ap₂ ◌∷◌ (get_or-set_other slots n k a 0 other) (in_use_set k n a slots (omega arith))

-- a push puts its address on top
pub in_use_push : (n a : ℕ) (slots : List ℕ) → n < length slots → in_use (n + 1) (set slots n a) ≡ a ∷ in_use n slots
in_use_push n a slots h = rw add-one (ap₂ ◌∷◌ (get_or-set_same slots n a 0 h) (in_use_set n n a slots (omega arith)))

-- control with so many levels in use
abbrev pub control_at : (pc levels : ℕ) → Mode → (asleep : Bool) → Control
control_at pc levels mode asleep = record { pc = pc; levels = levels; mode = mode; asleep = asleep }

-- a pop goes back to the top address
pub pop_is : (slots : List ℕ) (pc n : ℕ) (mode : Mode) (asleep : Bool)
    → pop_of slots (control_at pc (suc n) mode asleep) ≡ goes_on slots (control_at (get_or slots n 0) n mode asleep)
unfolding pop_of
pop_is slots pc n mode asleep =
    let one_less : suc n - 1 ≡ n = omega arith in
    rw (eqb-suc-zero n, one_less)
