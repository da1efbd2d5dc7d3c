-- Data bytes that differ at most at 40h to 7Fh, under the ROM window (document 01, "Program space and data space"):
-- "40h–7Fh show ROM", and "a store there does nothing".
use Rattle.std.specs.Prelude.{ℕ, ◌≡◌, true, false, List, length, get_or}
use Rattle.data.specs.Space.{in_window}

-- as many bytes in both, and the same byte at every address outside the window
pub record SameButUnder (bytes bytes' : List ℕ) : Type 0 where
  pub size : length bytes ≡ length bytes'
  pub elsewhere : (a : ℕ) → in_window a ≡ false → get_or bytes a 0 ≡ get_or bytes' a 0

-- the bytes under the window are the same in both
abbrev pub SameUnder : (bytes bytes' : List ℕ) → Type 0
SameUnder bytes bytes' = (a : ℕ) → in_window a ≡ true → get_or bytes a 0 ≡ get_or bytes' a 0
