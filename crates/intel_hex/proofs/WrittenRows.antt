-- The rows of an image are read one by one: each fills the next cells of the memory, and the end record ends it.
use Prim.Native.Nat.{ℕ, zero, suc, ◌+◌, ◌*◌, ◌≤◌, ◌<◌}
use native.Mathlib.Omega.{arith}
use mathlib.Core.Path.{◌≡◌, refl, sym, ap, ◌∙◌}
use mathlib.Core.Bool.{true, false}
use mathlib.Core.List.{List, [], ◌∷◌, ◌++◌, append_assoc, append-nil}
use lib.ListN.{length, take, drop, replicate, length-append, length-drop}
use lib.ListN.{take-append-drop, replicate-append-replicate}
use lib.Seq.{get_or-append_seam, set-append_seam, length-take-le, get_or-drop}
use borrow.Author.Tests.{le-leb, lt-ltb}
use Rattle.std.specs.Prelude.{Option, None, Some, map}
use Rattle.std.proofs.lemmas.List.{map-append, length-map}
use Rattle.isa.specs.RoundTrip.{Bytes}
use Rattle.intel_hex.specs.Lines.{lines_of}
use Rattle.intel_hex.specs.Place.{Memory, goes, placed}
use Rattle.intel_hex.specs.Take.{after_line}
use Rattle.intel_hex.specs.Read.{whole, after_lines}
use Rattle.intel_hex.specs.Write.{checksum_of, data_for, digits_for, line_for, rows_for}
use Rattle.intel_hex.proofs.ReadLaws.{line_read, text_ends}
use Rattle.intel_hex.proofs.WrittenLine.{content, with_checksum, data_bytes, data_back, end_back, line_back}

-- so many cells that are not named
abbrev pub unnamed : ℕ → Memory
unnamed n = replicate n None

-- .. and cells that are named with bytes
abbrev pub named : List ℕ → Memory
named bytes = map Some bytes

-- bytes placed where nothing is named
pub placed_fresh :
    (first : ℕ) (front : Memory) (bytes : List ℕ) (back : Memory) → first ≤ length front
    → length front + length bytes ≤ 4096
    → placed first (length front) (front ++ (unnamed (length bytes) ++ back)) bytes
    ≡ goes false (front ++ (named bytes ++ back))
unfolding placed
placed_fresh first front [] back h k = refl
placed_fresh first front (b ∷ bytes) back h k =
    let next : length (front ++ (Some b ∷ [])) ≡ suc (length front) = omega (arith, length-append front (Some b ∷ [])) in
    let again = placed_fresh first (front ++ (Some b ∷ [])) bytes back (omega arith) (omega arith) in
    rw (
      le-leb first (length front) h,
      lt-ltb (length front) 4096 (omega arith),
      get_or-append_seam front None (unnamed (length bytes) ++ back) None,
      set-append_seam front None (unnamed (length bytes) ++ back) (Some b),
    )
    (rw (
      next,
      append_assoc front (Some b ∷ []) (unnamed (length bytes) ++ back),
      append_assoc front (Some b ∷ []) (named bytes ++ back),
    ) at again)

-- parts of bytes are bytes
bytes_take : (n : ℕ) (bytes : List ℕ) → Bytes bytes → Bytes (take n bytes)
bytes_take zero bytes h j = omega arith
bytes_take (suc n) [] h j = omega arith
bytes_take (suc n) (b ∷ bytes) h zero = h 0
bytes_take (suc n) (b ∷ bytes) h (suc j) = bytes_take n bytes (λ k. h (suc k)) j

bytes_drop : (n : ℕ) (bytes : List ℕ) → Bytes bytes → Bytes (drop n bytes)
bytes_drop n bytes h j = rw (get_or-drop n bytes j 0) (h (n + j))

-- the end record
abbrev pub end_bytes : List ℕ
end_bytes = 0 ∷ 0 ∷ 0 ∷ 1 ∷ []

end_bytes_lem : Bytes end_bytes
end_bytes_lem zero = omega arith
end_bytes_lem (suc zero) = omega arith
end_bytes_lem (suc (suc zero)) = omega arith
end_bytes_lem (suc (suc (suc zero))) = omega arith
end_bytes_lem (suc (suc (suc (suc j)))) = omega arith

end_read :
    (first number : ℕ) (memory : Memory)
    → after_lines first false number memory (lines_of (line_for end_bytes)) ≡ whole memory
end_read first number memory =
    let full = end_bytes ++ (checksum_of end_bytes ∷ []) in
    let line : List ℕ = 58 ∷ (digits_for full ++ (10 ∷ [])) in
    ap (λ (l : List ℕ). after_lines first false number memory (lines_of l)) (sym (append-nil (line_for end_bytes)))
    ∙ ap (λ (l : List (List ℕ)). after_lines first false number memory l) (line_back end_bytes [] end_bytes_lem)
    ∙ line_read first false number memory line (lines_of []) true memory
    (ap (λ (l : List ℕ). after_line first false memory l) (content full (with_checksum end_bytes end_bytes_lem))
    ∙ end_back first memory)
    ∙ sym (text_ends first (suc number) memory [] refl)

-- one row, before lines that follow it
row_read :
    (first number : ℕ) (front : Memory) (row : List ℕ) (back : Memory) (rest : List ℕ) → Bytes row → length row < 256 → first ≤ length front
    → length front + length row ≤ 4096
    → after_lines first false number (front ++ (unnamed (length row) ++ back))
    (lines_of (line_for (data_for (length front) row) ++ rest))
    ≡ after_lines first false (suc number) (front ++ (named row ++ back)) (lines_of rest)
row_read first number front row back rest h n f s =
    let address = length front in
    let small : address < 65536 = omega arith in
    let header = data_bytes address row h n small in
    let full = data_for address row ++ (checksum_of (data_for address row) ∷ []) in
    let line : List ℕ = 58 ∷ (digits_for full ++ (10 ∷ [])) in
    let memory = front ++ (unnamed (length row) ++ back) in
    ap (λ (l : List (List ℕ)). after_lines first false number memory l) (line_back (data_for address row) rest header)
    ∙ line_read first false number memory line (lines_of rest) false (front ++ (named row ++ back))
    (ap (λ (l : List ℕ). after_line first false memory l) (content full (with_checksum (data_for address row) header))
    ∙ data_back first memory address row h n small
    ∙ placed_fresh first front row back f s)

-- all rows, then the end record
pub rows_read :
    (rows first number : ℕ) (front : Memory) (bytes : List ℕ) → Bytes bytes → length bytes ≡ rows * 16 → first ≤ length front
    → length front + length bytes ≤ 4096
    → after_lines first false number (front ++ unnamed (length bytes))
    (lines_of (rows_for rows (length front) bytes ++ line_for end_bytes))
    ≡ whole (front ++ named bytes)
unfolding rows_for
rows_read zero first number front [] h n f s = end_read first number (front ++ [])
rows_read zero first number front (b ∷ bytes) h n f s = absurd (omega arith)
rows_read (suc rows) first number front bytes h n f s =
    let row = take 16 bytes in
    let more = drop 16 bytes in
    let long : length row ≡ 16 = length-take-le 16 bytes (omega arith) in
    let left : length more ≡ rows * 16 = omega (arith, length-drop 16 bytes) in
    let size : length row + length more ≡ length bytes = omega arith in
    let cells : unnamed (length bytes) ≡ unnamed (length row) ++ unnamed (length more) =
    sym (replicate-append-replicate {A = Option ℕ} (length row) (length more) None ∙ ap unnamed size) in
    let next : length (front ++ named row) ≡ length front + 16 =
    omega (arith, length-append front (named row), length-map {B = Option ℕ} row) in
    let both : named bytes ≡ named row ++ named more =
    sym (sym (map-append (λ b. Some b) row more) ∙ ap named (take-append-drop 16 bytes)) in
    let again =
    rows_read rows first (suc number) (front ++ named row) more (bytes_drop 16 bytes h) left (omega arith) (omega arith) in
    let rest = rows_for rows (length front + 16) more in
    let cells-more = unnamed (length more) in
    rw (cells, append_assoc (line_for (data_for (length front) row)) rest (line_for end_bytes))
    (row_read first number front row cells-more (rest ++ line_for end_bytes) (bytes_take 16 bytes h) (omega arith) f
    (omega arith)
    ∙ (rw (next, append_assoc front (named row) cells-more, append_assoc front (named row) (named more), ← both) at again))
