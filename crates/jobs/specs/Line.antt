-- The line that an answer is printed as, in ASCII (document 01, P11 and P12).
use Rattle.std.specs.Prelude.{ℕ, List, [], ◌∷◌, ◌++◌}
use Rattle.isa.specs.Refusals.{plain, located, done, refused}
use Rattle.certificate.specs.Check.{Verdict}
pub use Rattle.text_line.specs.Digits.{decimal_of, three_digits}

-- `accepted` and a space
abbrev pub accepted_word : List ℕ
accepted_word = 0x61 ∷ 0x63 ∷ 0x63 ∷ 0x65 ∷ 0x70 ∷ 0x74 ∷ 0x65 ∷ 0x64 ∷ 0x20 ∷ []

-- `refused` and a space
abbrev pub refused_word : List ℕ
refused_word = 0x72 ∷ 0x65 ∷ 0x66 ∷ 0x75 ∷ 0x73 ∷ 0x65 ∷ 0x64 ∷ 0x20 ∷ []

abbrev pub space : List ℕ
space = 0x20 ∷ []

abbrev pub newline : List ℕ
newline = 0x0A ∷ []

-- "`accepted 2` and a newline", "`refused 17 883` and a newline (number, then address in three hex digits; a refusal
-- without address ends after the number)"
unfoldable pub line_of : Verdict → List ℕ
line_of (done levels) = accepted_word ++ (decimal_of levels ++ newline)
line_of (refused (plain number)) = refused_word ++ (decimal_of number ++ newline)
line_of (refused (located number address)) =
    refused_word ++ (decimal_of number ++ (space ++ (three_digits address ++ newline)))
