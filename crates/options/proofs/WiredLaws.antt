-- Laws of the parts of a text, and of the sources that they name.
use Prim.Native.Nat.{ℕ, suc, ◌+◌, ◌-◌, ◌≤◌, ◌<◌}
use native.Mathlib.Omega.{arith}
use native.Mathlib.Numerals.{add-one}
use mathlib.Core.Path.{◌≡◌, refl}
use mathlib.Core.Bool.{Bool, true, false, cond}
use mathlib.Core.List.{List, [], ◌∷◌}
use lib.Bits.{bit_or}
use lib.Dec.{eqb, ltb}
use lib.ListN.{length, take, drop, length-drop}
use lib.Seq.{take_all}
use borrow.Author.Tests.{ltb-true, ltb-false}
use Rattle.std.specs.Prelude.{None, Some, not, position}
use Rattle.std.specs.List.{position_or_len}
use Rattle.std.proofs.lemmas.Option.{cond_some}
use Rattle.intel_hex.specs.Lines.{before}
use Rattle.options.specs.Wired.{bit_named, parts_of, wired_after, with_bit}

-- how many letters stand before the first that is the given one
abbrev pub end_of : (letter : ℕ) → (text : List ℕ) → ℕ
end_of letter text = position_or_len (λ c. eqb c letter) text

-- a part to the end of a slice
pub to_end :
    (text : List ℕ) (size : ℕ) → size ≤ length text → take (length text - size) (drop size text) ≡ drop size text
to_end text size h =
    let same = length-drop size text in
    take_all (length text - size) (drop size text) (omega (arith, same))

-- the first part ends at the letter, and the parts after it follow; or it is all of the text
first_part :
    (letter : ℕ) (text : List ℕ) → end_of letter text < length text
    → parts_of letter text ≡ take (end_of letter text) text ∷ parts_of letter (drop (suc (end_of letter text)) text)
unfolding parts_of
first_part letter [] h = absurd (omega arith)
first_part letter (c ∷ rest) h = go (eqb c letter) h (first_part letter rest)
  where
    go :
        (t : Bool) → cond (not t) (1 + end_of letter rest) 0 < suc (length rest)
        → (end_of letter rest < length rest
        → parts_of letter rest ≡ take (end_of letter rest) rest ∷ parts_of letter (drop (suc (end_of letter rest)) rest))
        → cond t ([] ∷ parts_of letter rest) (before c (parts_of letter rest))
        ≡ take (cond (not t) (1 + end_of letter rest) 0) (c ∷ rest)
        ∷ parts_of letter (drop (suc (cond (not t) (1 + end_of letter rest) 0)) (c ∷ rest))
    go true h ih = refl
    go false h ih =
        let one : 1 + end_of letter rest ≡ suc (end_of letter rest) = omega arith in
        rw (one, ih (omega arith))

only_part : (letter : ℕ) (text : List ℕ) → length text ≤ end_of letter text → parts_of letter text ≡ text ∷ []
unfolding parts_of
only_part letter [] e = refl
only_part letter (c ∷ rest) e = go (eqb c letter) e (only_part letter rest)
  where
    go :
        (t : Bool) → suc (length rest) ≤ cond (not t) (1 + end_of letter rest) 0
        → (length rest ≤ end_of letter rest → parts_of letter rest ≡ rest ∷ [])
        → cond t ([] ∷ parts_of letter rest) (before c (parts_of letter rest)) ≡ (c ∷ rest) ∷ []
    go true e ih = absurd (omega arith)
    go false e ih = rw (ih (omega arith))

-- the letter's place, or that there is none
module _ (letter : ℕ) (text : List ℕ) where
  pub parts_at :
      (end : ℕ) → position (λ c. eqb c letter) text ≡ Some end
      → parts_of letter text ≡ take end text ∷ parts_of letter (drop (suc end) text)
  parts_at end is =
      let p = cond_some (ltb (end_of letter text) (length text)) (end_of letter text) end is in
      rw p.1 at (first_part letter text (ltb-true _ _ p.0))

  pub parts_none : position (λ c. eqb c letter) text ≡ None → parts_of letter text ≡ text ∷ []
  parts_none is = by (ltb (end_of letter text) (length text)) refl is
    where
      by : (t : Bool) → ltb (end_of letter text) (length text) ≡ t → cond t (Some (end_of letter text)) None ≡ None
          → parts_of letter text ≡ text ∷ []
      by true e f = absurd (cc)
      by false e f = only_part letter text (ltb-false _ _ e)

module _ (byte : ℕ) (rest : List ℕ) where
  module _ (end : ℕ) (is : position (λ c. eqb c 44) rest ≡ Some end) where
    -- the first part names no source, or one, and parts follow it
    pub no_source : bit_named (take end rest) ≡ None → wired_after byte (parts_of 44 rest) ≡ None
    unfolding wired_after
    no_source none = rw (parts_at 44 rest end is, none)

    pub one_source :
        (bit : ℕ) → bit_named (take end rest) ≡ Some bit → end < length rest
        → wired_after (bit_or byte bit) (parts_of 44 (take (length rest - (end + 1)) (drop (end + 1) rest)))
        ≡ wired_after byte (parts_of 44 rest)
    unfolding wired_after
    one_source bit some within =
        rw (to_end rest (end + 1) (omega arith), parts_at 44 rest end is, some, add-one end)

  -- it is the only one
  pub last_source :
      position (λ c. eqb c 44) rest ≡ None
      → wired_after byte (parts_of 44 rest) ≡ with_bit byte (bit_named rest) (λ after. Some after)
  unfolding wired_after
  last_source is = rw (parts_none 44 rest is)
