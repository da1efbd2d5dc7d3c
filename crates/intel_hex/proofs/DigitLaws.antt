-- Laws of digits and of the bytes that they are.
use Prim.Native.Nat.{ℕ, zero, suc, ◌+◌, ◌*◌, ◌≤◌, ◌<◌}
use native.Mathlib.Omega.{arith}
use native.Mathlib.Numerals.{add-one}
use mathlib.Core.Path.{◌≡◌, refl}
use mathlib.Core.Bool.{Bool, true, false, cond}
use mathlib.Core.List.{List, [], ◌∷◌}
use lib.Dec.{ltb}
use lib.ListN.{length, drop, get_or}
use lib.Seq.{drop-cons}
use borrow.Author.Tests.{ltb-true}
use Rattle.std.specs.Prelude.{Option, None, Some, is_some, unwrap_or, IfSome}
use Rattle.std.proofs.lemmas.List.Folds.{list_all_at}
use Rattle.intel_hex.specs.Digits.{are_digits, byte_at, bytes_of, digit_of, value_of, total}

-- both choices of a test within a bound
pick : (t : Bool) (x y : Option ℕ) (n : ℕ) → (t ≡ true → IfSome x (λ d. d < n)) → (t ≡ false → IfSome y (λ d. d < n))
    → IfSome (cond t x y) (λ d. d < n)
pick true x y n f g = f refl
pick false x y n f g = g refl

-- a digit is below 16
digit_small : (c : ℕ) → IfSome (digit_of c) (λ d. d < 16)
unfolding digit_of
digit_small c =
    pick (ltb c 48) _ _ 16 (λ e. tt)
    (λ e. pick (ltb c 58) _ _ 16 (λ f. omega (arith, ltb-true c 58 f))
    (λ e. pick (ltb c 65) _ _ 16 (λ f. tt)
    (λ e. pick (ltb c 71) _ _ 16 (λ f. omega (arith, ltb-true c 71 f))
    (λ e. pick (ltb c 97) _ _ 16 (λ f. tt)
    (λ e. pick (ltb c 103) _ _ 16 (λ f. omega (arith, ltb-true c 103 f))
    (λ e. tt))))))

pub digit_below : (c d : ℕ) → digit_of c ≡ Some d → d < 16
digit_below c d e = let small : IfSome (digit_of c) (λ d. d < 16) = digit_small c in rw e at small

value_most : (o : Option ℕ) → IfSome o (λ d. d < 16) → unwrap_or o 16 ≤ 16
value_most None h = omega arith
value_most (Some d) h = omega arith

value_at_most : (c : ℕ) → value_of c ≤ 16
value_at_most c = value_most (digit_of c) (digit_small c)

-- where all are digits, each is
pub is_digit_at :
    (digits : List ℕ) (i : ℕ) → are_digits digits ≡ true → i < length digits
    → is_some (digit_of (get_or digits i 0)) ≡ true
is_digit_at digits i h k =
    by (is_some (digit_of (get_or digits i 0)))
    (λ e. list_all_at (λ c. is_some (digit_of c)) digits i 0 k e)
  where
    by : (b : Bool) → (b ≡ false → are_digits digits ≡ false) → b ≡ true
    by true f = refl
    by false f = let no : are_digits digits ≡ false = f refl in cc

-- the byte of a pair, by its digits
pub pair_at_lem :
    (digits : List ℕ) (k : ℕ) → k * 2 + 1 < length digits
    → byte_at digits k ≡ value_of (get_or digits (k * 2) 0) * 16 + value_of (get_or digits (k * 2 + 1) 0)
unfolding bytes_of
pair_at_lem [] k h = absurd (omega arith)
pair_at_lem (a ∷ []) k h = absurd (omega arith)
pair_at_lem (a ∷ b ∷ rest) zero h = refl
pair_at_lem (a ∷ b ∷ rest) (suc k) h =
    let two : suc k * 2 ≡ suc (suc (k * 2)) = omega arith in
    let three : suc k * 2 + 1 ≡ suc (suc (k * 2 + 1)) = omega arith in
    rw (three, two) (pair_at_lem rest k (omega arith))

-- two characters to a byte
pub pairs : (digits : List ℕ) → (length (bytes_of digits) * 2 ≤ length digits)
    × (length digits ≤ length (bytes_of digits) * 2 + 1)
unfolding bytes_of
pairs [] = (omega arith, omega arith)
pairs (a ∷ []) = (omega arith, omega arith)
pairs (a ∷ b ∷ rest) = let ih = pairs rest in (omega (arith, ih.0), omega (arith, ih.1))

-- a byte is at most what two digits of 16 are
pub byte_at_most : (digits : List ℕ) (k : ℕ) → byte_at digits k ≤ 272
unfolding bytes_of
byte_at_most [] k = omega arith
byte_at_most (a ∷ []) k = omega arith
byte_at_most (a ∷ b ∷ rest) zero = omega (arith, value_at_most a, value_at_most b)
byte_at_most (a ∷ b ∷ rest) (suc k) = byte_at_most rest k

pub total_at_most : (digits : List ℕ) → total (bytes_of digits) ≤ length (bytes_of digits) * 272
unfolding bytes_of total
total_at_most [] = omega arith
total_at_most (a ∷ []) = omega arith
total_at_most (a ∷ b ∷ rest) = omega (arith, value_at_most a, value_at_most b, total_at_most rest)

-- the sum from a pair on: its byte, and the sum after it
pub total_step :
    (digits : List ℕ) (k : ℕ) → k < length (bytes_of digits)
    → total (drop k (bytes_of digits)) ≡ byte_at digits k + total (drop (k + 1) (bytes_of digits))
unfolding total
total_step digits k h = rw (drop-cons (bytes_of digits) k 0 h, add-one k)

pub total_none : total [] ≡ 0
unfolding total
total_none = refl
