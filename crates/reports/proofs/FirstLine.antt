-- The first line of an answer is the job program's.
use Prim.Native.Nat.{ℕ}
use mathlib.Core.Path.{ap, ◌∙◌}
use mathlib.Core.List.{List, ◌++◌, append_assoc}
use Rattle.isa.specs.Refusals.{plain, located, done, refused}
use Rattle.jobs.specs.Line.{accepted_word, refused_word, decimal_of, three_digits, space, newline, line_of}
use Rattle.reports.specs.Answers.{answer_text, FirstLineIsTheJobs}

pub first_line_is_the_jobs : FirstLineIsTheJobs
unfolding answer_text line_of
first_line_is_the_jobs (done levels) = append_assoc accepted_word (decimal_of levels) newline
first_line_is_the_jobs (refused (plain number)) = append_assoc refused_word (decimal_of number) newline
first_line_is_the_jobs (refused (located number address)) =
    let rest = space ++ three_digits address in
    append_assoc refused_word (decimal_of number ++ rest) newline
    ∙ ap (λ (l : List ℕ). refused_word ++ l) (append_assoc (decimal_of number) rest newline)
