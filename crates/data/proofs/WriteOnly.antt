-- Reads and stores at the two write-only registers, and what is read at every other address.
use Prim.Native.Nat.{ℕ, ◌≤◌, ◌<◌}
use mathlib.Core.Path.{◌≡◌, refl}
use mathlib.Core.Logic.{◌⊎◌, inl, inr}
use mathlib.Core.Bool.{Bool, true, false, ◌||◌}
use mathlib.Core.List.{List}
use native.Mathlib.Omega.{arith}
use borrow.Author.Tests.{le-leb, lt-ltb, eqb-true, ne_eqb}
use lib.Dec.{eqb}
use lib.ListN.{set}
use Rattle.data.specs.declared.Origin.TheVariants.{Register}
use Rattle.data.specs.Space.{is_write_only, shown_of, window_address, held_of, read_of, origin_of, store_of}
use Rattle.isa.specs.Rom.{rom_at}

one_of : (a b : Bool) → (a || b) ≡ true → (a ≡ true) ⊎ (b ≡ true)
one_of true b e = inl refl
one_of false b e = inr e

-- a law of both registers is one of each
pub of_both : (P : ℕ → Type 0) → P 0xC8 → P 0xC9 → (a : ℕ) → is_write_only a ≡ true → P a
of_both P option window a e = by_register (one_of (eqb a 0xC8) (eqb a 0xC9) e)
  where
    by_register : (eqb a 0xC8 ≡ true) ⊎ (eqb a 0xC9 ≡ true) → P a
    by_register (inl t) = rw (eqb-true a 0xC8 t) option
    by_register (inr t) = rw (eqb-true a 0xC9 t) window

module _ (image bytes : List ℕ) where
  pub reads_zero : (a : ℕ) → is_write_only a ≡ true → read_of image bytes a ≡ 0
  unfolding read_of
  reads_zero a e = rw e

  pub reads_held : (a : ℕ) → is_write_only a ≡ false → read_of image bytes a ≡ held_of image bytes a
  unfolding read_of
  reads_held a e = rw e

  pub reads_window :
      (a : ℕ) → 0x40 ≤ a → a < 0x80 → read_of image bytes a ≡ shown_of (rom_at image (window_address bytes a))
  unfolding read_of
  reads_window a low high =
      rw (
        ne_eqb a 0xC8 (λ e. omega arith),
        ne_eqb a 0xC9 (λ e. omega arith),
        le-leb 0x40 a low,
        lt-ltb a 0x80 high,
      )

  pub is_register : (a : ℕ) → is_write_only a ≡ true → origin_of image bytes a ≡ Register
  unfolding origin_of
  is_register a e = of_both (λ (x : ℕ). origin_of image bytes x ≡ Register) refl refl a e

pub stores_there : (bytes : List ℕ) (value a : ℕ) → is_write_only a ≡ true → store_of bytes a value ≡ set bytes a value
unfolding store_of
stores_there bytes value a e = of_both (λ (x : ℕ). store_of bytes x value ≡ set bytes x value) refl refl a e
