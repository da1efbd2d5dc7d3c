-- A line in the making, as the program's contracts speak of it: what a line has, and what is put after it.
use Rattle.std.specs.Prelude.{ℕ, List}
use Rattle.text_line.specs.Line as line
pub use Rattle.text_line.specs.Digits.{two_digits}
pub use Rattle.text_line.specs.Line.{pad_to, spaces}

-- a line of the given bytes, cut off after 128
abbrev pub Holds : (bytes line : List ℕ) → Type 0
Holds = line.Holds 128

-- a line with bytes after those of another, cut off after 128
abbrev pub Adds : (bytes before after : List ℕ) → Type 0
Adds = line.Adds 128
