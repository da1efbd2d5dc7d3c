-- With one page, or none, the check answers what it answered.
use Prim.Native.Nat.{ℕ, zero, suc}
use mathlib.Core.Path.{◌≡◌, refl}
use mathlib.Core.Bool.{true}
use mathlib.Core.List.{List, [], ◌∷◌}
use lib.ListN.{length}
use Rattle.isa.specs.Rom.{is_space, spaces_in}
use Rattle.isa.proofs.Halves.{by_length, space_image, space_is_image}
use Rattle.certificate.specs.Check.{pages_found, mark_found, marks_found, marks_in, check_of}
use Rattle.certificate.specs.Passes.{page_found}
use Rattle.certificate.specs.OnePage.{marks_unpaged, check_unpaged, CheckAsBefore}

module _ (image : List ℕ) (is : is_space (length image) ≡ true) where
  pub one_space : spaces_in (length image) ≡ 1
  one_space = by_length (λ n. spaces_in n ≡ 1) refl refl (length image) is

  pub a_mark_each : marks_in (length image) ≡ length image
  a_mark_each = by_length (λ n. marks_in n ≡ n) refl refl (length image) is

  mark_is : (certificate : List ℕ) (a mark : ℕ) → mark_found image certificate 1 a mark ≡ page_found image certificate a mark
  unfolding mark_found page_found pages_found
  mark_is certificate a zero = refl
  mark_is certificate a (suc m) = rw (space_is_image image 0 is)

  marks_are : (certificate : List ℕ) (a : ℕ) (marks : List ℕ)
      → marks_found image certificate 1 a marks ≡ marks_unpaged image certificate a marks
  unfolding marks_found marks_unpaged
  marks_are certificate a [] = refl
  marks_are certificate a (m ∷ marks) = rw (mark_is certificate a m, marks_are certificate (suc a) marks)

pub check_as_before : CheckAsBefore
unfolding check_of check_unpaged
check_as_before image is certificate wired =
    rw (space_image image is, is, a_mark_each image is, one_space image is, marks_are image is certificate _ certificate)
