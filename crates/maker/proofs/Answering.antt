-- A new certificate: it has no marks, and is sound.
use Prim.Native.Nat.{ℕ, zero, suc}
use mathlib.Core.Path.{◌≡◌, refl}
use mathlib.Core.Bool.{true}
use mathlib.Core.List.{List, [], ◌∷◌}
use lib.ListN.{length, get_or, take, replicate, length-replicate}
use lib.Seq.{length-take-le}
use Rattle.isa.specs.Rom.{is_image}
use Rattle.certificate.proofs.Facts.{at_most_4096}
use Rattle.certificate.specs.Check.{marks_in}
use Rattle.maker.specs.Making.{Sound}
use Rattle.maker.proofs.Final.{unmarked_sound}

-- a certificate's part of a new array
pub zeros : (n i : ℕ) → ◌≡◌ {A = ℕ} (get_or (replicate n 0) i 0) 0
zeros zero i = refl
zeros (suc n) zero = refl
zeros (suc n) (suc i) = zeros n i

part_zeros : (k : ℕ) (l : List ℕ) → ((i : ℕ) → get_or l i 0 ≡ 0) → (i : ℕ) → get_or (take k l) i 0 ≡ 0
part_zeros zero l h i = refl
part_zeros (suc k) [] h i = refl
part_zeros (suc k) (m ∷ l) h zero = h 0
part_zeros (suc k) (m ∷ l) h (suc i) = part_zeros k l (λ j. h (suc j)) i

pub part_length : (image : List ℕ)
    → length {A = ℕ} (take (marks_in (length image)) (replicate 4096 0)) ≡ marks_in (length image)
part_length image =
    length-take-le (marks_in (length image)) (replicate 4096 0) (rw length-replicate (at_most_4096 (length image)))

pub new_sound : (image : List ℕ) (wired : ℕ) → is_image (length image) ≡ true
    → Sound image wired (take (marks_in (length image)) (replicate 4096 0))
new_sound image wired i =
    unmarked_sound i (part_length image) (part_zeros (marks_in (length image)) (replicate 4096 0) (zeros 4096))
