-- A line that is written is read again: its digits are its bytes, it is cut at its end, and its sum is 0.
use Prim.Native.Nat.{ℕ, zero, suc, ◌+◌, ◌-◌, ◌*◌, ◌/◌, ◌%◌, ◌<◌}
use native.Mathlib.Omega.{arith}
use native.Mathlib.Nat.{div-add-mod'}
use mathlib.Core.Path.{◌≡◌, refl, sym, ap, ◌∙◌}
use mathlib.Core.Bool.{Bool, true, false}
use mathlib.Core.List.{List, [], ◌∷◌, ◌++◌, append_assoc}
use lib.Dec.{T, eqb, eqb→eq}
use lib.ListN.{length, get_or, length-append}
use lib.Seq.{take-append_seam}
use borrow.Author.Tests.{eq-eqb, ne_eqb}
use Rattle.std.specs.Prelude.{Option, None, Some}
use Rattle.std.proofs.lemmas.Option.{none-some}
use Rattle.isa.specs.RoundTrip.{Bytes}
use Rattle.isa.proofs.Finite.{at}
use Rattle.intel_hex.specs.Digits.{are_digits, bytes_of, digit_of, total}
use Rattle.intel_hex.specs.Lines.{lines_of, content_of, without_last}
use Rattle.intel_hex.specs.Place.{Memory, goes, placed}
use Rattle.intel_hex.specs.Take.{after_digits, after_line, after_record}
use Rattle.intel_hex.specs.Write.{checksum_of, data_for, digits_for, glyph, line_for}
use Rattle.intel_hex.proofs.LineLaws.{last_off, stays}
use Rattle.intel_hex.proofs.StepLaws.{colon}

-- a digit is read as itself
is_value : Option ℕ → (d : ℕ) → Bool
is_value None d = false
is_value (Some v) d = eqb v d

value_is : (o : Option ℕ) (d : ℕ) → T (is_value o d) → o ≡ Some d
unfolding is_value
value_is None d h = absurd h
value_is (Some v) d h = ap Some (eqb→eq v d h)

pub digit_back : (d : ℕ) → d < 16 → digit_of (glyph d) ≡ Some d
unfolding digit_of glyph is_value
digit_back d h = value_is (digit_of (glyph d)) d (at (λ k. is_value (digit_of (glyph k)) k) 16 tt d h)

-- no digit ends a line, nor is it a 0Dh
pub no_end : (d : ℕ) → d < 16 → glyph d ≡ 10 → ⊥
unfolding digit_of
no_end d h e = none-some d (sym (sym (digit_back d h) ∙ ap digit_of e))

pub no_return : (d : ℕ) → d < 16 → glyph d ≡ 13 → ⊥
unfolding digit_of
no_return d h e = none-some d (sym (sym (digit_back d h) ∙ ap digit_of e))

module _ (b : ℕ) (byte : b < 256) where
  high : b / 16 < 16
  high = omega arith

  low : b % 16 < 16
  low = omega arith

-- bytes are read from their digits
pub bytes_back : (bytes : List ℕ) → Bytes bytes → bytes_of (digits_for bytes) ≡ bytes
unfolding bytes_of digits_for
bytes_back [] h = refl
bytes_back (b ∷ bytes) h =
    rw (
      digit_back (b / 16) (high b (h 0)),
      digit_back (b % 16) (low b (h 0)),
      bytes_back bytes (λ j. h (suc j)),
      div-add-mod' b 16,
    )

pub digits_are : (bytes : List ℕ) → Bytes bytes → are_digits (digits_for bytes) ≡ true
unfolding digits_for
digits_are [] h = refl
digits_are (b ∷ bytes) h =
    rw (digit_back (b / 16) (high b (h 0)), digit_back (b % 16) (low b (h 0))) (digits_are bytes (λ j. h (suc j)))

pub digits_length : (bytes : List ℕ) → length (digits_for bytes) ≡ length bytes * 2
unfolding digits_for
digits_length [] = refl
digits_length (b ∷ bytes) = omega (arith, digits_length bytes)

-- a line's digits up to its end
before_line :
    (c : ℕ) (text line : List ℕ) (lines : List (List ℕ)) → (c ≡ 10 → ⊥) → lines_of text ≡ line ∷ lines
    → lines_of (c ∷ text) ≡ (c ∷ line) ∷ lines
unfolding lines_of
before_line c text line lines h e = rw (ne_eqb _ _ h, e)

pub digits_line :
    (bytes rest : List ℕ) → Bytes bytes
    → lines_of (digits_for bytes ++ (10 ∷ rest)) ≡ (digits_for bytes ++ (10 ∷ [])) ∷ lines_of rest
unfolding digits_for lines_of
digits_line [] rest h = refl
digits_line (b ∷ bytes) rest h =
    let text = digits_for bytes ++ (10 ∷ rest) in
    let line = digits_for bytes ++ (10 ∷ []) in
    before_line (glyph (b / 16)) (glyph (b % 16) ∷ text) (glyph (b % 16) ∷ line) (lines_of rest)
    (no_end (b / 16) (high b (h 0)))
    (before_line (glyph (b % 16)) text line (lines_of rest) (no_end (b % 16) (low b (h 0)))
    (digits_line bytes rest (λ j. h (suc j))))

no_returns : (bytes : List ℕ) → Bytes bytes → (j : ℕ) → get_or (digits_for bytes) j 0 ≡ 13 → ⊥
unfolding digits_for
no_returns [] h j e = omega arith
no_returns (b ∷ bytes) h zero e = no_return (b / 16) (high b (h 0)) e
no_returns (b ∷ bytes) h (suc zero) e = no_return (b % 16) (low b (h 0)) e
no_returns (b ∷ bytes) h (suc (suc j)) e = no_returns bytes (λ k. h (suc k)) j e

no_return_after_colon : (bytes : List ℕ) → Bytes bytes → (j : ℕ) → get_or (58 ∷ digits_for bytes) j 0 ≡ 13 → ⊥
no_return_after_colon bytes h zero e = omega arith
no_return_after_colon bytes h (suc j) e = no_returns bytes h j e

-- what is left without the 0Ah
cut : (line : List ℕ) → without_last 10 (line ++ (10 ∷ [])) ≡ line
cut line = sym (last_off 10 line)

pub content : (bytes : List ℕ) → Bytes bytes → content_of (58 ∷ (digits_for bytes ++ (10 ∷ []))) ≡ 58 ∷ digits_for bytes
content bytes h =
    ap (without_last 13) (cut (58 ∷ digits_for bytes))
    ∙ sym (stays 13 (58 ∷ digits_for bytes) (no_return_after_colon bytes h (length (58 ∷ digits_for bytes) - 1)))

-- the sum with the checksum
total_append : (bytes : List ℕ) (last : ℕ) → total (bytes ++ (last ∷ [])) ≡ total bytes + last
unfolding total
total_append [] last = omega arith
total_append (b ∷ bytes) last = omega (arith, total_append bytes last)

pub summed : (bytes : List ℕ) → total (bytes ++ (checksum_of bytes ∷ [])) % 256 ≡ 0
summed bytes = rw (total_append bytes (checksum_of bytes)) (omega arith)

pub with_checksum : (bytes : List ℕ) → Bytes bytes → Bytes (bytes ++ (checksum_of bytes ∷ []))
with_checksum bytes h = by bytes (checksum_of bytes) h (omega arith)
  where
    by : (l : List ℕ) (c : ℕ) → Bytes l → c < 256 → Bytes (l ++ (c ∷ []))
    by [] c h k zero = k
    by [] c h k (suc j) = omega arith
    by (b ∷ l) c h k zero = h 0
    by (b ∷ l) c h k (suc j) = by l c (λ i. h (suc i)) k j

-- a record that is written passes the tests
pub record_back :
    (first : ℕ) (memory : Memory) (bytes : List ℕ) → Bytes bytes → length bytes ≡ 5 + get_or bytes 0 0 → total bytes % 256 ≡ 0
    → after_line first false memory (58 ∷ digits_for bytes) ≡ after_record first memory bytes
unfolding after_digits
record_back first memory bytes h n e =
    sym (colon first memory (58 ∷ digits_for bytes) (λ z. omega arith) refl)
    ∙ rw (
      digits_are bytes h,
      bytes_back bytes h,
      digits_length bytes,
      eq-eqb (length bytes * 2) (10 + get_or bytes 0 0 * 2) (omega (arith, n)),
      e,
    )

one_byte : (b : ℕ) (bytes : List ℕ) → b < 256 → Bytes bytes → Bytes (b ∷ bytes)
one_byte b bytes h k zero = h
one_byte b bytes h k (suc j) = k j

pub data_bytes :
    (address : ℕ) (bytes : List ℕ) → Bytes bytes → length bytes < 256 → address < 65536 → Bytes (data_for address bytes)
data_bytes address bytes h n a =
    let three = one_byte 0 bytes (omega arith) h in
    let two = one_byte (address % 256) (0 ∷ bytes) (omega arith) three in
    let one = one_byte (address / 256) (address % 256 ∷ 0 ∷ bytes) (omega arith) two in
    one_byte (length bytes) (address / 256 ∷ address % 256 ∷ 0 ∷ bytes) n one

-- a data record, and the end record
pub data_back :
    (first : ℕ) (memory : Memory) (address : ℕ) (bytes : List ℕ) → Bytes bytes → length bytes < 256 → address < 65536
    → after_line first false memory (58 ∷ digits_for (data_for address bytes ++ (checksum_of (data_for address bytes) ∷ [])))
    ≡ placed first address memory bytes
unfolding after_record
data_back first memory address bytes h n a =
    record_back first memory (data_for address bytes ++ (checksum_of (data_for address bytes) ∷ []))
    (with_checksum (data_for address bytes) (data_bytes address bytes h n a))
    (omega (arith, length-append bytes (checksum_of (data_for address bytes) ∷ []))) (summed (data_for address bytes))
    ∙ rw (div-add-mod' address 256, take-append_seam bytes (checksum_of (data_for address bytes) ∷ []))

pub end_back :
    (first : ℕ) (memory : Memory)
    → after_line first false memory (58 ∷ digits_for ((0 ∷ 0 ∷ 0 ∷ 1 ∷ []) ++ (checksum_of (0 ∷ 0 ∷ 0 ∷ 1 ∷ []) ∷ [])))
    ≡ goes true memory
unfolding after_line after_digits after_record bytes_of digit_of digits_for glyph total
end_back first memory = refl

-- the line of a record, with what follows it
pub line_back :
    (bytes rest : List ℕ) → Bytes bytes
    → lines_of (line_for bytes ++ rest)
    ≡ (58 ∷ (digits_for (bytes ++ (checksum_of bytes ∷ [])) ++ (10 ∷ []))) ∷ lines_of rest
line_back bytes rest h =
    let full = bytes ++ (checksum_of bytes ∷ []) in
    before_line 58 ((digits_for full ++ (10 ∷ [])) ++ rest) (digits_for full ++ (10 ∷ [])) (lines_of rest)
    (λ e. omega arith)
    (rw (append_assoc (digits_for full) (10 ∷ []) rest) (digits_line full rest (with_checksum bytes h)))
