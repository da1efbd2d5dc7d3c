-- States in and out: what `pack` and the exported functions need of lists.
use Prim.Native.Nat.{ℕ, ◌≤◌}
use mathlib.Core.Path.{◌≡◌, refl, ◌∙◌}
use mathlib.Core.Bool.{true, and-eq-true_iff}
use mathlib.Core.List.{List, [], ◌++◌, append-nil}
use native.Mathlib.Omega.{arith}
use native.Mathlib.Nat.{le_refl}
use borrow.Author.Tests.{eqb-true}
use lib.ListN.{length, drop, length-append, length-drop, drop_of_length-le}
use lib.Seq.{paste, take_all, take_at, drop-append-add}
use Rattle.control.specs.declared.Control.{Control}
use Rattle.machine.specs.declared.FlagPairs.{FlagPairs}
use Rattle.exports.specs.States.{is_valid, control_bytes, stack_bytes}

pub valid_length : (s : List ℕ) → is_valid s ≡ true → length s ≡ 280
unfolding is_valid
valid_length s e = eqb-true (length s) 280 ((and-eq-true_iff _ _).0 e).0

-- a part pasted in where what stands before it ends
paste_next :
    (p r part : List ℕ) (at : ℕ) → length p ≡ at
    → paste (p ++ r) at part (length part) ≡ p ++ part ++ drop (length part) r
paste_next p r part at e =
    rw (take_at p r at e, take_all (length part) part (le_refl _), ← e, drop-append-add p r (length part))

-- three parts in a row that fill a list
pub three_parts :
    (s bytes s₁ s₂ s₃ : List ℕ) (c : Control) (f : FlagPairs) (stack : List ℕ) → length s ≡ 280 → length bytes ≡ 256 →
    s₁ ≡ paste s 0 bytes (length bytes) → s₂ ≡ paste s₁ 256 (control_bytes c f) (length (control_bytes c f)) →
    s₃ ≡ paste s₂ 268 (stack_bytes stack) (length (stack_bytes stack))
    → s₃ ≡ bytes ++ control_bytes c f ++ stack_bytes stack
unfolding control_bytes stack_bytes
three_parts s bytes s₁ s₂ s₃ c f stack whole full e₁ e₂ e₃ =
    let cb = control_bytes c f in
    let sb = stack_bytes stack in
    let r₁ = drop (length bytes) s in
    let r₂ = drop 12 r₁ in
    let filled : length (bytes ++ cb) ≡ 268 = simp length-append (omega arith) in
    let over : length r₂ ≤ 12 = simp length-drop (omega arith) in
    let d₁ : s₁ ≡ bytes ++ r₁ = e₁ ∙ paste_next [] s bytes 0 refl in
    let d₂ : s₂ ≡ bytes ++ cb ++ r₂ = e₂ ∙ rw d₁ (paste_next bytes r₁ cb 256 full) in
    let d₃ : s₃ ≡ bytes ++ cb ++ sb ++ drop 12 r₂ = e₃ ∙ rw d₂ (paste_next (bytes ++ cb) r₂ sb 268 filled) in
    d₃ ∙ rw (drop_of_length-le r₂ over, append-nil)
