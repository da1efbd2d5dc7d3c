-- `answers::refusal_line` meets its contract.
use Rattle.text_line.proofs.LineLaws.{both}
use Rattle.reports.specs.Answers.{answer_text}
use Rattle.reports.proofs.answers.refusal_line.Goals as goal

pub returns-in-Plain : goal.returns-in-Plain
unfolding answer_text
returns-in-Plain c =
    rw (← c.number_of.ensures, c.in-Plain.is)
    (both c.word-begun.ensures (rw c.from.ensures at c.decimal.ensures))

pub returns-in-Located : goal.returns-in-Located
unfolding answer_text
returns-in-Located c =
    let number = rw c.from-in-Located.ensures at c.decimal-in-Located.ensures in
    let located = both number (both c.letter.ensures c.address.ensures) in
    rw (← c.number_of.ensures, c.in-Located.is) (both c.word-begun.ensures located)
