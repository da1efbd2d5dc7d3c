-- The size of an image is never guessed.
use Prim.Native.Nat.{ℕ, ◌-◌}
use native.Mathlib.Omega.{arith}
use mathlib.Core.Path.{◌≡◌, refl, sym, ap}
use mathlib.Core.Bool.{Bool, true, false, cond}
use mathlib.Core.List.{List, ◌++◌}
use lib.Dec.{eqb, leb}
use lib.ListN.{length, take}
use borrow.Author.Tests.{leb-true, leb-false}
use Rattle.isa.specs.Refusals.{unless}
use Rattle.isa.specs.Rom.{is_image}
use Rattle.std.specs.Prelude.{Option, None, Some, Result, Ok, Err}
use Rattle.intel_hex.specs.declared.HexError.{HexError}
use Rattle.intel_hex.specs.Read.{answer_of, outcome_of}
use Rattle.options.specs.declared.image.Rom.{Rom}
use Rattle.options.specs.declared.image.Rom.TheVariants as rom
use Rattle.options.specs.declared.image.Asked.{Asked}
use Rattle.options.specs.declared.image.Asked.TheVariants as asked
use Rattle.options.specs.declared.image.ChosenBy.{ChosenBy}
use Rattle.options.specs.declared.image.ChosenBy.TheVariants as by
use Rattle.options.specs.declared.image.ImageError.TheVariants as error
use Rattle.options.specs.Image.{bytes_of, ByLowest, Got, got, hex_got, hex_put, image_got, is_hex, may_be, raw_got}
use Rattle.options.specs.Image.{SizeIsNeverGuessed, sized_by, sized_by_lowest, sized_for, size_of, whole}
use Rattle.options.proofs.ImageLaws.{size_bytes}

-- what is found, by its parts
abbrev rom_in : Got → Rom
rom_in (got (Ok found) space) = found.rom
rom_in (got (Err error) space) = rom.Small

abbrev by_in : Got → ChosenBy
by_in (got (Ok found) space) = found.by
by_in (got (Err error) space) = by.Size

module _ (size : Rom) (b : ChosenBy) (after : List ℕ) where
  abbrev Whole : Got
  Whole = got (whole size b) after

  -- the space has as many bytes as the longest image
  inside : (t : Bool) (space : List ℕ) (g : Got) → unless t (got (Err error.NoSize) space) g ≡ Whole → g ≡ Whole
  inside true space g e = e
  inside false space g e = absurd (cc)

  -- a size that is asked for
  sized : (s : Rom) (x : Result ℕ HexError) (space : List ℕ) → got (sized_by s x) space ≡ Whole → size ≡ s
  sized s (Ok lowest) space e = sym (ap rom_in e)
  sized s (Err hex) space e = absurd (cc)

  -- none that is asked for
  module _ (file : List ℕ) where
    by_address :
        (lowest : ℕ) (space : List ℕ) (u v : Bool) → answer_of (outcome_of file 4096) ≡ Ok lowest
        → leb 2048 lowest ≡ v
        → got (cond u (Err error.Unnamed) (whole (cond v rom.Small rom.Large) (by.Lowest lowest))) space ≡ Whole
        → ByLowest file size b
    by_address lowest space true v is l e = absurd (cc)
    by_address lowest space false true is l e =
        record {
          lowest = lowest;
          is_named = is;
          chosen = sym (ap by_in e);
          small = λ h. sym (ap rom_in e);
          large = λ h. absurd (omega (arith, leb-true 2048 lowest l));
        }
    by_address lowest space false false is l e =
        record {
          lowest = lowest;
          is_named = is;
          chosen = sym (ap by_in e);
          small = λ h. absurd (omega (arith, leb-false 2048 lowest l));
          large = λ h. sym (ap rom_in e);
        }

    by_lowest :
        (x : Result ℕ HexError) (space : List ℕ) → answer_of (outcome_of file 4096) ≡ x
        → got (sized_by_lowest x) space ≡ Whole → ByLowest file size b
    unfolding sized_for
    by_lowest (Ok lowest) space is e = by_address lowest space (leb 4096 lowest) (leb 2048 lowest) is refl e
    by_lowest (Err hex) space is e = absurd (cc)

    -- a raw file
    of_raw :
        (t u : Bool) (space with-file : List ℕ) → is_image (length file) ≡ t
        → unless t (got (Err error.NoSize) space)
        (unless u (got (Err error.OtherSize) space) (got (whole (size_of (length file)) by.Size) with-file)) ≡ Whole
        → length file ≡ bytes_of size
    of_raw true true space with-file is e =
        let same : size ≡ size_of (length file) = sym (ap rom_in e) in
        rw same (size_bytes (length file) is)
    of_raw true false space with-file is e = absurd (cc)
    of_raw false u space with-file is e = absurd (cc)

module _ (file : List ℕ) (fill : ℕ) (raw : Bool) (space after : List ℕ) (size : Rom) (b : ChosenBy) where
  -- a HEX file, and a raw one
  as_hex :
      (a : Option Asked) → is_hex file raw ≡ true → image_got file a fill raw space ≡ got (whole size b) after
      → hex_got file a fill space ≡ got (whole size b) after
  unfolding image_got
  as_hex a h e = inside size b after (eqb (length space) 20480) space (hex_got file a fill space) (rw h at e)

  as_raw :
      (a : Option Asked) → is_hex file raw ≡ false → image_got file a fill raw space ≡ got (whole size b) after
      → raw_got file a space ≡ got (whole size b) after
  unfolding image_got
  as_raw a h e = inside size b after (eqb (length space) 20480) space (raw_got file a space) (rw h at e)

  pub size_is_never_guessed : SizeIsNeverGuessed file fill raw space after size b
  unfolding hex_got raw_got
  size_is_never_guessed =
      record {
        asks_2k = λ h e.
            sized size b after rom.Small (answer_of (outcome_of file 2048)) (hex_put file rom.Small fill space)
            (as_hex (Some asked.Small) h e);
        asks_4k = λ h e.
            sized size b after rom.Large (answer_of (outcome_of file 4096)) (hex_put file rom.Large fill space)
            (as_hex (Some asked.Large) h e);
        asks_nothing = λ h e.
            by_lowest size b after file (answer_of (outcome_of file 4096)) (hex_put file rom.Large fill space)
            refl (as_hex None h e);
        is_raw = λ h a e.
            of_raw size b after file (is_image (length file)) (may_be a (size_of (length file))) space
            (take (20480 - length file) space ++ file) refl (as_raw a h e);
      }
