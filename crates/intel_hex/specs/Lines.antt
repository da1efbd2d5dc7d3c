-- The lines of a text.
use Rattle.std.specs.Prelude.{ℕ, suc, ◌-◌, cond, List, [], ◌∷◌, eqb, length, take, get_or}

-- a character before the lines of what follows it, where it ends no line
abbrev pub before : (character : ℕ) → (lines : List (List ℕ)) → List (List ℕ)
before c [] = (c ∷ []) ∷ []
before c (line ∷ lines) = (c ∷ line) ∷ lines

-- a text is lines, each ended by 0Ah, which the last may lack: here each line has its ending
unfoldable pub lines_of : (text : List ℕ) → List (List ℕ)
lines_of [] = []
lines_of (c ∷ rest) = cond (eqb c 10) ((c ∷ []) ∷ lines_of rest) (before c (lines_of rest))

-- bytes without the last, where that is the given one
unfoldable pub without_last : (last : ℕ) → (bytes : List ℕ) → List ℕ
without_last last bytes = cond (eqb (get_or bytes (length bytes - 1) 0) last) (take (length bytes - 1) bytes) bytes

-- what a line says: its ending does not count, nor does a 0Dh just before it or at the very end of the text
abbrev pub content_of : (line : List ℕ) → List ℕ
content_of line = without_last 13 (without_last 10 line)

-- What the functions inside the crate promise; no claim uses it.

-- how many bytes the first line has, with its ending
unfoldable pub line_size : (text : List ℕ) → ℕ
line_size [] = 0
line_size (c ∷ rest) = cond (eqb c 10) 1 (suc (line_size rest))
