-- Laws of a line in the making: what is cut off after the most that a line takes composes with no bound on lengths.
use Rattle.std.proofs.Common.{ℕ, zero, suc, ◌+◌, ◌-◌, ◌≤◌, ◌≡◌, List, [], ◌∷◌, ◌++◌, length, take, min, refl, sym, ap, arith, append_assoc, length-append, length-drop, length-take}
use Rattle.std.proofs.lemmas.List.{take-take, take_min, drop-replicate, drop-drop, length-replicate, take_all, take-replicate}
use Rattle.std.proofs.lemmas.Slice.{drop-put_mid, take-put_mid}
use Rattle.std.proofs.Math.Seq.{take-append-add}
use borrow.Rule.Slice.PartMut.{put_mid}
use Rattle.text_line.specs.Line.{Adds, Holds, Within, pad_to, spaces}
use Rattle.text_line.specs.Letters.{bytes_counted}

-- what is cut off once is cut off with what comes after it
pub take_again : (n : ℕ) (xs ys : List ℕ) → take n (take n xs ++ ys) ≡ take n (xs ++ ys)
take_again zero xs ys = refl
take_again (suc n) [] ys = refl
take_again (suc n) (x ∷ xs) ys = rw (take_again n xs ys)

-- two pieces, one after the other
pub both : {most : ℕ} {a b s t u : List ℕ} → Adds most a s t → Adds most b t u → Adds most (a ++ b) s u
both {most} {a} {b} {s} p q = record { content = rw (q.content, p.content, take_again most (s ++ a) b, append_assoc) }

-- an empty line
pub empty : {most : ℕ} {s : List ℕ} → s ≡ [] → Holds most [] s
empty {most} e = record { content = rw e (sym (take_all most [] (omega arith))) }

-- a piece after the bytes of a line that holds no other
pub then : {most : ℕ} {a b s t : List ℕ} → Holds most a s → Adds most b s t → Holds most (a ++ b) t
then {most} {a} {b} p q = record { content = rw (q.content, p.content, take_again most a b) }

-- a line of bytes that fit has all of them
pub whole : {most : ℕ} {a s : List ℕ} → Holds most a s → length a ≤ most → s ≡ a
whole {most} {a} p h = rw p.content (take_all most a h)

-- spaces up to a column within the line
pub pads :
    {most : ℕ} {a s t : List ℕ} (column : ℕ) → column ≤ most → Holds most a s
    → Adds most (spaces (column - length s)) s t → Holds most (pad_to column a) t
pads {most} {a} {s} column h p q =
    let cut : length s ≡ length (take most a) = ap length p.content in
    let same : column - length s ≡ column - length a = rw (cut, length-take) (omega arith) in
    then p (rw same at q)

-- letters put after a line's bytes, as many as there is room for
module _
    (most count k : ℕ) (letters text new : List ℕ) (w : Within most count letters)
    (room : k ≡ min (length text) (most - count)) (is : new ≡ take k text) where
  start : count ≤ length letters
  start = omega (arith, w.room, w.array)

  size : length new ≡ k
  size = rw (is, length-take) (omega arith)

  same : new ≡ take (most - count) text
  same =
      let least : k ≡ min (most - count) (length text) = omega arith in
      rw (is, least, take_min)

  -- they stand within the array, and zeros after them
  pub within : Within most (count + k) (put_mid count k letters new)
  within =
      record {
        room = omega (arith, w.room);
        array = simp (length-append, length-take, length-drop) (omega (arith, w.room, w.array, size));
        rest =
            let left : most - count - k ≡ most - (count + k) = omega arith in
            rw (
              drop-put_mid count k letters new (count + k) (omega arith) start size,
              ← drop-drop k count letters,
              w.rest,
              drop-replicate,
              left,
            );
      }

  -- the line has them after its bytes
  pub adds : Adds most text (take count letters) (take (count + k) (put_mid count k letters new))
  adds =
      let all : length (take count letters) + (most - count) ≡ most = omega (arith, bytes_counted w, w.room) in
      let rest = rw all at (take-append-add (take count letters) text (most - count)) in
      record {
        content = rw (take-put_mid count k letters new (count + k) (omega (arith, size)) start, same) (sym rest);
      }

-- what is cut off in any case may be left out before
left_out : (n m : ℕ) (xs ys : List ℕ) → n ≤ m → take n (xs ++ take m ys) ≡ take n (xs ++ ys)
left_out zero m xs ys h = refl
left_out (suc n) m [] ys h = take-take (suc n) m ys h
left_out (suc n) m (x ∷ xs) ys h = rw (left_out n m xs ys (omega arith))

-- spaces, no more than the most that a line takes
pub spaces_cut :
    (most count k : ℕ) {s t : List ℕ} → k ≡ min count most → Adds most (take k (spaces most)) s t → Adds most (spaces count) s t
spaces_cut most count k {s} e p =
    let least : min most (length (spaces count)) ≡ k = rw length-replicate (omega arith) in
    let some : k ≤ most = omega arith in
    let few : k ≤ count = omega arith in
    let cut : take k (spaces most) ≡ take most (spaces count) =
    rw (← take_min most (spaces count), least, take-replicate {X = ℕ} k most 0x20, take-replicate {X = ℕ} k count 0x20) in
    record { content = rw (p.content, cut, left_out most most s (spaces count) (omega arith)) }
