-- Program space with a page in place.
use Prim.Native.Nat.{ℕ, ◌≤◌}
use mathlib.Core.Path.{◌≡◌, refl}
use mathlib.Core.Bool.{Bool, true, false, cond}
use mathlib.Core.List.{List}
use lib.ListN.{length}
use borrow.Author.Tests.{le-ltb}
use Rattle.isa.specs.Rom.{is_image, rom_at, space_of}
use Rattle.std.specs.Prelude.{Option, None}
use Rattle.listing.specs.Pages.{rom_in}

either : (t : Bool) (r : Option ℕ) → r ≡ None → cond t r None ≡ None
either true r e = e
either false r e = refl

-- no byte stands at an address above FFFh
pub no_rom : (image : List ℕ) (bank a : ℕ) → 4096 ≤ a → rom_in image bank a ≡ None
unfolding rom_in rom_at
no_rom image bank a h =
    let none : rom_at (space_of image bank) a ≡ None = rw (le-ltb a 4096 h) in
    either (is_image (length image)) (rom_at (space_of image bank) a) none
