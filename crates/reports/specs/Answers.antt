-- The first line of an answer: "The first line on standard output is the job program's line".
use Rattle.std.specs.Prelude.{ℕ, ◌≡◌, List, ◌++◌}
use Rattle.isa.specs.Refusals.{plain, located, done, refused}
use Rattle.certificate.specs.Check.{Verdict}
use Rattle.jobs.specs.Line.{accepted_word, refused_word, decimal_of, three_digits, space, newline, line_of}

-- an answer's line, without its end: `accepted 2`, `refused 17 883`
unfoldable pub answer_text : Verdict → List ℕ
answer_text (done levels) = accepted_word ++ decimal_of levels
answer_text (refused (plain number)) = refused_word ++ decimal_of number
answer_text (refused (located number address)) =
    refused_word ++ (decimal_of number ++ (space ++ three_digits address))

-- with its end it is the line that the job program prints
-- proved by first_line_is_the_jobs, proofs/FirstLine
abbrev pub FirstLineIsTheJobs : Type 0
FirstLineIsTheJobs = (answer : Verdict) → answer_text answer ++ newline ≡ line_of answer
