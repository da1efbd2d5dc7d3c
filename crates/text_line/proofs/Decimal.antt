-- Laws of decimal digits.
use Rattle.std.proofs.Common.{ℕ, zero, suc, ◌/◌, ◌%◌, ◌<◌, ◌≤◌, ◌≡◌, ◌*◌, Bool, true, false, cond, [], ◌∷◌, ◌++◌, length, refl, arith, length-append}
use lib.Dec.{ltb}
use borrow.Author.Tests.{ltb-false, lt-ltb, le-ltb}
use Rattle.text_line.specs.Digits.{decimal_below, decimal_of, glyph}

pub one_digit : (n : ℕ) → n < 10 → decimal_of n ≡ glyph n ∷ []
unfolding decimal_of
one_digit n h = rw (lt-ltb _ _ h)

-- any power above the number gives the same digits
same_digits : (j k n : ℕ) → n < j → n < k → decimal_below j n ≡ decimal_below k n
same_digits zero k n p q = absurd (omega arith)
same_digits (suc j) zero n p q = absurd (omega arith)
same_digits (suc j) (suc k) n p q =
    go (ltb n 10) refl
    (λ e. let h = ltb-false n 10 e in same_digits j k (n / 10) (omega arith) (omega arith))
  where
    go :
        (small : Bool)
        → ltb n 10 ≡ small
        → (ltb n 10 ≡ false → decimal_below j (n / 10) ≡ decimal_below k (n / 10))
        → cond small (glyph n ∷ []) (decimal_below j (n / 10) ++ (glyph (n % 10) ∷ []))
        ≡ cond small (glyph n ∷ []) (decimal_below k (n / 10) ++ (glyph (n % 10) ∷ []))
    go true e tenth = refl
    go false e tenth = rw (tenth e)

-- a number's digits are those of its tenth part, then its last
pub more_digits : (n : ℕ) → 10 ≤ n → decimal_of n ≡ decimal_of (n / 10) ++ (glyph (n % 10) ∷ [])
unfolding decimal_of
more_digits n h =
    rw (le-ltb n 10 h, same_digits n (suc (n / 10)) (n / 10) (omega arith) (omega arith))

-- a number below 10 to a power has at most so many digits
abbrev pub tens : (power : ℕ) → ℕ
tens zero = 1
tens (suc d) = 10 * tens d

below_fit : (k d n : ℕ) → n < tens (suc d) → length (decimal_below k n) ≤ suc d
below_fit zero d n h = omega arith
below_fit (suc k) d n h = go (ltb n 10) refl d h (λ e less. below_fit k e (n / 10) less)
  where
    go :
        (small : Bool) → ltb n 10 ≡ small → (d : ℕ) → n < tens (suc d)
        → ((e : ℕ) → n / 10 < tens (suc e) → length (decimal_below k (n / 10)) ≤ suc e)
        → length (cond small (glyph n ∷ []) (decimal_below k (n / 10) ++ (glyph (n % 10) ∷ []))) ≤ suc d
    go true e d h tenth = omega arith
    go false e zero h tenth = absurd (omega (arith, ltb-false n 10 e))
    go false e (suc d) h tenth = rw length-append (omega (arith, tenth d (omega arith)))

pub digits_fit : (d n : ℕ) → n < tens (suc d) → length (decimal_of n) ≤ suc d
unfolding decimal_of
digits_fit d n h = below_fit (suc n) d n h
