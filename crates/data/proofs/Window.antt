-- What the test of the ROM window says.
use Prim.Native.Nat.{ℕ, ◌≤◌, ◌<◌}
use mathlib.Core.Path.{◌≡◌, sym, ◌∙◌}
use mathlib.Core.Bool.{Bool, true, and-eq-true_iff}
use borrow.Author.Tests.{leb-true, ltb-true}
use lib.Dec.{leb, ltb}
use Rattle.data.specs.Space.{in_window}

-- both ends
pub in_window_lem : (a : ℕ) (is : Bool) → is ≡ in_window a → is ≡ true → (0x40 ≤ a) × (a < 0x80)
in_window_lem a is e t =
    let p = (and-eq-true_iff (leb 0x40 a) (ltb a 0x80)).0 (sym e ∙ t) in
    (leb-true 0x40 a p.0, ltb-true a 0x80 p.1)
