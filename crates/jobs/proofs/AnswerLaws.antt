-- What a caller of `answer::answer` may do with its answer.
use Prim.Native.Nat.{ℕ, ◌≤◌}
use native.Mathlib.Omega.{arith}
use mathlib.Core.Path.{◌≡◌, sym, ap, ◌∙◌}
use mathlib.Core.Bool.{Bool, true, false, cond}
use mathlib.Core.List.{List, ◌++◌}
use lib.ListN.{length, drop, length-append}
use borrow.Author.Tests.{le-leb}
use Rattle.std.specs.Prelude.{Result, Ok}
use Rattle.isa.specs.declared.Refusal.{Refusal}
use Rattle.isa.specs.Refusals.{plain, answered, done, refused}
use Rattle.jobs.specs.Answer.{Answers, SixteenBytesAreEnough}
use Rattle.text_line.specs.Line.{fits}

-- a line that was written lies within the buffer
pub within_buffer :
    {line before after : List ℕ} {r : Result ℕ Refusal} {n : ℕ} → r ≡ Ok n → Answers line before after r → n ≤ length after
within_buffer {line} {before} {after} {r} {n} e a = go (fits line before) (ap answered (sym e) ∙ a.answer) a.buffer
  where
    go :
        (b : Bool)
        → done n ≡ cond b (done (length line)) (refused (plain 9))
        → after ≡ cond b (line ++ drop (length line) before) before
        → n ≤ length after
    go true p q =
        let same : n ≡ length line = cc in
        rw (q, length-append) (omega arith)
    go false p q = let never : ◌≡◌ {A = ℕ} 0 1 = cc in absurd (omega arith)

pub sixteen_bytes_are_enough : SixteenBytesAreEnough
sixteen_bytes_are_enough line before after r a h =
    let room : length line ≤ length before = omega (arith, a.short) in
    rw le-leb at a.answer
