-- What is put after a line's bytes, and what writing a line does to the buffer that is lent.
use Rattle.std.specs.Prelude.{ℕ, ◌-◌, ◌≤◌, ◌≡◌, Bool, cond, List, ◌++◌, Option, Some, None, leb, length, take, drop, replicate}

-- a line of the given bytes, cut off after the most that it takes
pub record Holds (most : ℕ) (bytes line : List ℕ) : Type 0 where
  pub content : line ≡ take most bytes

-- a line with bytes after those of another, cut off after the most that it takes
pub record Adds (most : ℕ) (bytes before after : List ℕ) : Type 0 where
  pub content : after ≡ take most (before ++ bytes)

-- so many spaces
abbrev pub spaces : ℕ → List ℕ
spaces count = replicate count 0x20

-- bytes followed by spaces up to a column
abbrev pub pad_to : (column : ℕ) → List ℕ → List ℕ
pad_to column bytes = bytes ++ spaces (column - length bytes)

-- the letters after a line's last
abbrev pub zeros : ℕ → List ℕ
zeros count = replicate count 0

-- a buffer that a line fits in
abbrev pub fits : (line buffer : List ℕ) → Bool
fits line buffer = leb (length line) (length buffer)

-- writing a line's bytes to a buffer: from its first byte, and bytes after them stay; nothing is written where the
-- buffer is shorter than the line
pub record Writes (line before after : List ℕ) (r : Option ℕ) : Type 0 where
  pub answer : r ≡ cond (fits line before) (Some (length line)) None
  pub buffer : after ≡ cond (fits line before) (line ++ drop (length line) before) before

-- the letters of a line: an array as long as the longest line, and zeros after the line's own
pub record Within (most count : ℕ) (letters : List ℕ) : Type 0 where
  pub room : count ≤ most
  pub array : length letters ≡ most
  pub rest : drop count letters ≡ zeros (most - count)
