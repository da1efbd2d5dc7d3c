-- What writing a line does to the buffer that is lent.
use Rattle.std.specs.Prelude.{ℕ, ◌≡◌, cond, List, ◌++◌, length, drop, Result}
use Rattle.isa.specs.Refusals.{plain, answered, done, refused}
use Rattle.isa.specs.declared.Refusal.{Refusal}
use Rattle.text_line.specs.Line.{fits}

-- writing a line's bytes to a buffer: from its first byte, and bytes after them stay; 9, and nothing written, where the
-- buffer is shorter than the line
pub record Writes (line before after : List ℕ) (r : Result ℕ Refusal) : Type 0 where
  pub answer : answered r ≡ cond (fits line before) (done (length line)) (refused (plain 9))
  pub buffer : after ≡ cond (fits line before) (line ++ drop (length line) before) before
