-- A byte of data space comes from the origin that is told.
use Prim.Native.Nat.{ℕ, ◌≤◌, ◌<◌}
use mathlib.Core.Path.{◌≡◌, refl}
use mathlib.Core.Bool.{Bool, true, false, cond, ◌&&◌}
use mathlib.Core.List.{List}
use native.Mathlib.Omega.{arith}
use borrow.Author.Tests.{leb-true, leb-false, ltb-true, ltb-false}
use lib.Dec.{leb, ltb}
use lib.ListN.{get_or}
use Rattle.isa.specs.Rom.{rom_at}
use Rattle.std.specs.Prelude.{Option, Some, None}
use Rattle.data.specs.declared.Origin.TheVariants.{Ram, Register}
use Rattle.data.specs.Space.{is_write_only, shown_of, window_address, window_origin, held_of, read_of, origin_of}
use Rattle.data.specs.Laws.{ComesFrom, ram, register, write_only, rom, no_rom, ByteComesFrom}
use Rattle.data.proofs.WriteOnly.{reads_zero, reads_held, is_register}

module _ (image bytes : List ℕ) (a : ℕ) where
  in_window_lem :
      0x40 ≤ a → a < 0x80 → (r : Option ℕ) → rom_at image (window_address bytes a) ≡ r →
      ComesFrom image bytes a (shown_of r) (window_origin (window_address bytes a) r)
  in_window_lem low high (Some byte) e = rom byte low high e
  in_window_lem low high None e = no_rom low high e

  -- a byte that can be read, by the tests of the window's two ends, and of 80h
  by_tests :
      is_write_only a ≡ false → (low : Bool) → leb 0x40 a ≡ low → (high : Bool) → ltb a 0x80 ≡ high →
      (up : Bool) → leb 0x80 a ≡ up →
      ComesFrom image bytes a
      (cond (low && high) (shown_of (rom_at image (window_address bytes a))) (get_or bytes a 0))
      (cond (low && high) (window_origin (window_address bytes a) (rom_at image (window_address bytes a)))
      (cond up Register Ram))
  by_tests n true e true f up g = in_window_lem (leb-true 0x40 a e) (ltb-true a 0x80 f) (rom_at image _) refl
  by_tests n true e false f true g = register (leb-true 0x80 a g) n
  by_tests n true e false f false g = absurd (omega (arith, ltb-false a 0x80 f, leb-false 0x80 a g))
  by_tests n false e high f true g = absurd (omega (arith, leb-false 0x40 a e, leb-true 0x80 a g))
  by_tests n false e high f false g = ram (leb-false 0x40 a e)

  held : is_write_only a ≡ false → ComesFrom image bytes a (held_of image bytes a) (origin_of image bytes a)
  unfolding origin_of
  held n = by_tests n (leb 0x40 a) refl (ltb a 0x80) refl (leb 0x80 a) refl

  by_kind : (w : Bool) → is_write_only a ≡ w → ComesFrom image bytes a (read_of image bytes a) (origin_of image bytes a)
  by_kind true e = rw (reads_zero image bytes a e, is_register image bytes a e) (write_only e)
  by_kind false e = rw (reads_held image bytes a e) (held e)

pub byte_comes_from : ByteComesFrom
byte_comes_from image bytes a = by_kind image bytes a (is_write_only a) refl
