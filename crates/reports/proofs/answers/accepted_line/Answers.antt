-- `answers::accepted_line` meets its contract.
use Rattle.text_line.proofs.LineLaws.{both, empty, then}
use Rattle.reports.specs.Answers.{answer_text}
use Rattle.reports.proofs.answers.accepted_line.Goals as goal

pub returns : goal.returns
unfolding answer_text
returns c =
    then (empty c.new.ensures) (both c.word.ensures (rw c.from.ensures at c.decimal.ensures))
