-- Laws of a line by its first character.
use Prim.Native.Nat.{ℕ}
use native.Mathlib.Omega.{arith}
use mathlib.Core.Path.{◌≡◌, refl}
use mathlib.Core.Bool.{Bool, true, false}
use mathlib.Core.List.{List, [], ◌∷◌}
use lib.ListN.{length, drop, get_or}
use borrow.Author.Tests.{eq-eqb, ne_eqb}
use Rattle.intel_hex.specs.declared.Fault.TheVariants.{NoColon, AfterEnd}
use Rattle.intel_hex.specs.Place.{Memory, goes, faulty}
use Rattle.intel_hex.specs.Take.{after_digits, after_line}

pub empty_line :
    (first : ℕ) (ended : Bool) (memory : Memory) (line : List ℕ) → length line ≡ 0
    → goes ended memory ≡ after_line first ended memory line
unfolding after_line
empty_line first ended memory [] h = refl
empty_line first ended memory (c ∷ rest) h = absurd (omega arith)

pub after_end_lem :
    (first : ℕ) (memory : Memory) (line : List ℕ) → (length line ≡ 0 → ⊥) → faulty AfterEnd ≡ after_line first true memory line
unfolding after_line
after_end_lem first memory [] h = absurd (h refl)
after_end_lem first memory (c ∷ rest) h = refl

pub no_colon :
    (first : ℕ) (memory : Memory) (line : List ℕ) → (length line ≡ 0 → ⊥) → (get_or line 0 0 ≡ 58 → ⊥)
    → faulty NoColon ≡ after_line first false memory line
unfolding after_line
no_colon first memory [] h e = absurd (h refl)
no_colon first memory (c ∷ rest) h e = rw (ne_eqb _ _ e)

pub colon :
    (first : ℕ) (memory : Memory) (line : List ℕ) → (length line ≡ 0 → ⊥) → get_or line 0 0 ≡ 58
    → after_digits first memory (drop 1 line) ≡ after_line first false memory line
unfolding after_line
colon first memory [] h e = absurd (h refl)
colon first memory (c ∷ rest) h e = rw (eq-eqb _ _ e)
