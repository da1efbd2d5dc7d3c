-- Laws of decimal numbers.
use Prim.Native.Nat.{ℕ, ◌+◌, ◌-◌, ◌*◌, ◌≤◌, ◌<◌}
use native.Mathlib.Omega.{arith}
use native.Mathlib.Numerals.{add-one}
use mathlib.Core.Path.{◌≡◌, refl, sym, ◌∙◌}
use mathlib.Core.Bool.{Bool, true, false}
use mathlib.Core.List.{List, [], ◌∷◌}
use lib.ListN.{length, drop, get_or, drop_of_length-le}
use lib.Seq.{drop-cons}
use borrow.Author.Tests.{le-leb, lt-leb}
use Rattle.std.specs.Prelude.{Option, None, Some}
use Rattle.isa.specs.Refusals.{unless}
use Rattle.options.specs.Numbers.{are_decimal, decimal_named, parsed_after, value_after}

-- a value grows with each digit
grows : (value : ℕ) (digits : List ℕ) → value ≤ value_after value digits
unfolding value_after
grows value [] = omega arith
grows value (c ∷ rest) = omega (arith, grows (value * 10 + (c - 0x30)) rest)

-- wrong either way
same_wrong : (t : Bool) → unless {A = Option ℕ} t None None ≡ None
same_wrong true = refl
same_wrong false = refl

-- a value that is too large stays so
over : (value : ℕ) (digits : List ℕ) → 65535 < value → parsed_after value digits ≡ None
unfolding parsed_after
over value digits l =
    rw (lt-leb (value_after value digits) 65535 (omega (arith, grows value digits))) (same_wrong (are_decimal digits))

module _ (text : List ℕ) (i : ℕ) (h : i < length text) (value : ℕ) where
  abbrev letter : ℕ
  letter = get_or text i 0

  -- the value from a letter on: it is below or above the digits
  pub below_digits : letter < 0x30 → parsed_after value (drop i text) ≡ None
  unfolding parsed_after are_decimal
  below_digits l = rw (drop-cons text i 0 h, lt-leb 0x30 letter l)

  pub above_digits : 0x39 < letter → parsed_after value (drop i text) ≡ None
  unfolding parsed_after are_decimal
  above_digits l = rw (drop-cons text i 0 h, le-leb 0x30 letter (omega arith), lt-leb letter 0x39 l)

  -- .. or the letters after it decide
  pub one_more :
      0x30 ≤ letter → letter ≤ 0x39
      → parsed_after (value * 10 + (letter - 0x30)) (drop (i + 1) text) ≡ parsed_after value (drop i text)
  unfolding parsed_after are_decimal value_after
  one_more p q = rw (add-one i, drop-cons text i 0 h, le-leb 0x30 letter p, le-leb letter 0x39 q)

  -- .. and the value is too large already
  pub too_large :
      0x30 ≤ letter → letter ≤ 0x39 → 65535 < value * 10 + (letter - 0x30)
      → parsed_after value (drop i text) ≡ None
  too_large p q l = sym (one_more p q) ∙ over (value * 10 + (letter - 0x30)) (drop (i + 1) text) l

-- no letters are left
pub all_digits :
    (text : List ℕ) (i value : ℕ) → length text ≤ i → value ≤ 65535
    → parsed_after value (drop i text) ≡ Some value
unfolding parsed_after are_decimal value_after
all_digits text i value h l = rw (drop_of_length-le text {i = i} h, le-leb value 65535 l)

-- a text with and without letters
pub no_text : (text : List ℕ) → length text ≡ 0 → decimal_named text ≡ None
unfolding decimal_named
no_text text e = rw (lt-leb 1 (length text) (omega arith))

pub some_text : (text : List ℕ) → (length text ≡ 0 → ⊥) → decimal_named text ≡ parsed_after 0 text
unfolding decimal_named
some_text text n = rw (le-leb 1 (length text) (omega arith))
