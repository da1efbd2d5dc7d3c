-- The gauge answers what it answered, of every image.
use Prim.Native.Nat.{ℕ, zero, suc}
use mathlib.Core.Path.{◌≡◌, refl, sym, ap, ◌∙◌}
use mathlib.Core.Bool.{Bool, true, false, cond, true≢false}
use mathlib.Core.List.{List, []}
use borrow.Author.Tests.{le-leb, leb-true}
use lib.Dec.{leb}
use lib.ListN.{length}
use Rattle.isa.specs.Refusals.{plain, Answer, done, refused}
use Rattle.isa.specs.Rom.{is_space, is_image}
use Rattle.isa.proofs.Halves.{space_most, image_space}
use Rattle.machine.specs.declared.Machine.{Machine}
use Rattle.machine.specs.Run.{Run}
use Rattle.machine.specs.OnePage.{steps_unpaged}
use Rattle.machine.proofs.OnePage.{machine_as_before}
use Rattle.certificate.specs.Check.{Verdict, check_of}
use Rattle.certificate.specs.OnePage.{check_unpaged}
use Rattle.certificate.proofs.OnePage.{check_as_before}
use Rattle.gauge.specs.Sleep.{Size, size_as, width_shown, size_from}
use Rattle.gauge.specs.Width.{width_by, unpaged_check, width_of}
use Rattle.gauge.specs.OnePage.{size_unpaged, width_by_unpaged, width_unpaged, GaugeAsBefore}

-- the answer where the machine sleeps after n steps, else that of the steps after them
abbrev sized : (n : ℕ) → Run → Answer Size → Answer Size
sized n r later = cond r.machine.control.asleep (done (size_as (width_shown r.machine) n)) later

module _ (image certificate : List ℕ) (count : ℕ) where
  size_is : is_space (length image) ≡ true → (m : Machine) (n left : ℕ)
      → size_from image m n left ≡ size_unpaged image m n left
  unfolding size_from size_unpaged
  size_is is m n zero = refl
  size_is is m n (suc left) =
      ap (λ (r : Run). sized n r (size_from image m (suc n) left)) (machine_as_before.steps image is [] m n)
      ∙ ap (sized n (steps_unpaged image [] m n)) (size_is is m (suc n) left)

  by_verdict : is_space (length image) ≡ true → (v : Verdict) → width_by image count v ≡ width_by_unpaged image count v
  by_verdict is (done levels) = size_is is _ 1 65535
  by_verdict is (refused r) = refl

  -- 2K and 4K
  unpaged : is_space (length image) ≡ true → width_of image certificate count ≡ width_unpaged image certificate count
  unfolding width_of
  unpaged is =
      rw (le-leb (length image) 4096 (space_most (length image) is), check_as_before image is certificate 0)
      (by_verdict is (check_unpaged image certificate 0))

  -- any other length is refused by both
  other : is_space (length image) ≡ false → width_of image certificate count ≡ width_unpaged image certificate count
  unfolding width_of check_of check_unpaged
  other not = rw not (by_size (leb (length image) 4096) refl (is_image (length image)) refl)
    where
      by_size : (b : Bool) → leb (length image) 4096 ≡ b → (is : Bool) → is_image (length image) ≡ is
          → width_by image count (unpaged_check image certificate) ≡ refused (plain 23)
      by_size true e true f =
          absurd (true≢false (sym (image_space (length image) (leb-true (length image) 4096 e) f) ∙ not))
      by_size true e false f = rw (e, f)
      by_size false e is f = rw e

pub gauge_as_before : GaugeAsBefore
gauge_as_before image certificate count = by_length (is_space (length image)) refl
  where
    by_length : (b : Bool) → is_space (length image) ≡ b
        → width_of image certificate count ≡ width_unpaged image certificate count
    by_length true is = unpaged image certificate count is
    by_length false not = other image certificate count not
