-- Laws of placing data, byte by byte.
use Prim.Native.Nat.{ℕ, suc, ◌+◌, ◌*◌, ◌≤◌, ◌<◌}
use native.Mathlib.Omega.{arith}
use native.Mathlib.Numerals.{add-one}
use mathlib.Core.Path.{◌≡◌, sym, ◌∙◌}
use mathlib.Core.Bool.{true, false}
use mathlib.Core.List.{List}
use lib.ListN.{length, drop, get_or, set, length-take, length-drop, drop_of_length-le}
use lib.Seq.{drop-cons, get_or-take, get_or-drop}
use Rattle.std.specs.Prelude.{None, Some}
use Rattle.intel_hex.specs.declared.Fault.TheVariants.{OutsideImage, DifferingData}
use Rattle.intel_hex.specs.Digits.{byte_at, bytes_of}
use Rattle.intel_hex.specs.Place.{Memory, faulty, goes, agrees, data_of, is_inside, placed}
use Rattle.intel_hex.proofs.DigitLaws.{pairs}

-- the data of a record as long as its count says
pub data_length :
    (digits : List ℕ) (count : ℕ) → 8 + count * 2 ≤ length digits → length (data_of count (bytes_of digits)) ≡ count
data_length digits count h =
    simp (length-take, length-drop) (omega (arith, (pairs digits).0, (pairs digits).1))

pub data_at :
    (digits : List ℕ) (count k : ℕ) → k < count → get_or (data_of count (bytes_of digits)) k 0 ≡ byte_at digits (4 + k)
data_at digits count k h = rw (get_or-take count (drop 4 (bytes_of digits)) k 0 h, get_or-drop 4 (bytes_of digits) k 0)

module _ (first address : ℕ) (memory : Memory) (bytes : List ℕ) (k : ℕ) (more : k < length bytes) where
  outside : is_inside first address ≡ false → placed first address memory (drop k bytes) ≡ faulty OutsideImage
  unfolding placed
  outside e = rw (drop-cons bytes k 0 more, e)

  differing :
      is_inside first address ≡ true → agrees (get_or memory address None) (get_or bytes k 0) ≡ false
      → placed first address memory (drop k bytes) ≡ faulty DifferingData
  unfolding placed
  differing e f = rw (drop-cons bytes k 0 more, e, f)

  one_placed :
      is_inside first address ≡ true → agrees (get_or memory address None) (get_or bytes k 0) ≡ true
      → placed first address memory (drop k bytes)
      ≡ placed first (suc address) (set memory address (Some (get_or bytes k 0))) (drop (suc k) bytes)
  unfolding placed
  one_placed e f = rw (drop-cons bytes k 0 more, e, f)

-- a turn of the loop that places the data of digits: the byte k, at an address so far from the record's
module _
    (first start : ℕ) (memory : Memory) (digits : List ℕ) (count k byte : ℕ) (whole : 8 + count * 2 ≤ length digits)
    (more : k < count) (is : byte ≡ byte_at digits (4 + k)) where
  in_data : k < length (data_of count (bytes_of digits))
  in_data = rw (data_length digits count whole) more

  same : get_or (data_of count (bytes_of digits)) k 0 ≡ byte
  same = data_at digits count k more ∙ sym is

  pub turn_differs :
      is_inside first (start + k) ≡ true → agrees (get_or memory (start + k) None) byte ≡ false
      → placed first (start + k) memory (drop k (data_of count (bytes_of digits))) ≡ faulty DifferingData
  turn_differs e f =
      differing first (start + k) memory (data_of count (bytes_of digits)) k in_data e (rw same f)

  pub turn_placed :
      is_inside first (start + k) ≡ true → agrees (get_or memory (start + k) None) byte ≡ true
      → placed first (start + (k + 1)) (set memory (start + k) (Some byte)) (drop (k + 1) (data_of count (bytes_of digits)))
      ≡ placed first (start + k) memory (drop k (data_of count (bytes_of digits)))
  turn_placed e f =
      let next : start + (k + 1) ≡ suc (start + k) = omega arith in
      rw (next, add-one k, ← same)
      (sym (one_placed first (start + k) memory (data_of count (bytes_of digits)) k in_data e (rw same f)))

pub turn_outside :
    (first address : ℕ) (memory : Memory) (digits : List ℕ) (count k : ℕ) → 8 + count * 2 ≤ length digits → k < count
    → is_inside first address ≡ false
    → placed first address memory (drop k (data_of count (bytes_of digits))) ≡ faulty OutsideImage
turn_outside first address memory digits count k whole more e =
    outside first address memory (data_of count (bytes_of digits)) k (rw (data_length digits count whole) more) e

-- after the last byte
pub turns_end :
    (first address : ℕ) (memory : Memory) (digits : List ℕ) (count k : ℕ) → 8 + count * 2 ≤ length digits → count ≤ k
    → goes false memory ≡ placed first address memory (drop k (data_of count (bytes_of digits)))
unfolding placed
turns_end first address memory digits count k whole end =
    let over = drop_of_length-le (data_of count (bytes_of digits)) {i = k} (rw (data_length digits count whole) end) in
    rw over
