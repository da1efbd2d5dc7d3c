-- What answering a job does to the buffer that its line is written to.
use Rattle.std.specs.Prelude.{ℕ, ◌≤◌, ◌≡◌, cond, List, ◌++◌, length, drop, Result}
use Rattle.isa.specs.Refusals.{plain, answered, done, refused}
use Rattle.isa.specs.declared.Refusal.{Refusal}
use Rattle.text_line.specs.Line.{fits}

-- writing a line, of at most 16 bytes, to a buffer: "It is written from the buffer's first byte; bytes after it stay.",
-- and "A refusal .. leaves buffers .. untouched"; "9 buffer shorter than the instruction", here than the line
pub record Answers (line before after : List ℕ) (r : Result ℕ Refusal) : Type 0 where
  pub short : length line ≤ 16
  pub answer : answered r ≡ cond (fits line before) (done (length line)) (refused (plain 9))
  pub buffer : after ≡ cond (fits line before) (line ++ drop (length line) before) before

-- a buffer of 16 bytes takes every line that is answered so
-- proved by sixteen_bytes_are_enough, proofs/AnswerLaws
abbrev pub SixteenBytesAreEnough : Type 0
SixteenBytesAreEnough =
    (line before after : List ℕ) (r : Result ℕ Refusal) → Answers line before after r → 16 ≤ length before
    → answered r ≡ done (length line)
