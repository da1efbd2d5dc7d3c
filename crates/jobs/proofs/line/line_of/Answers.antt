-- `line::line_of` meets its contract: with at most three digits the line is whole.
use Rattle.std.proofs.Common.{◌≤◌, ◌++◌, arith, length, length-append}
use Rattle.text_line.specs.Digits.{decimal_of}
use Rattle.text_line.proofs.Decimal.{digits_fit}
use Rattle.text_line.proofs.LineLaws.{both, empty, then, whole}
use Rattle.jobs.specs.Line.{accepted_word, line_of, newline}
use Rattle.jobs.proofs.line.line_of.Goals as goal

pub returns-in-Ok : goal.returns-in-Ok
unfolding line_of
returns-in-Ok c =
    let n = c.in-Ok.levels in
    let made = then (empty c.new.ensures) (both c.word.ensures (both c.decimal.ensures c.letter.ensures)) in
    let short : length (accepted_word ++ (decimal_of n ++ newline)) ≤ 16 =
    simp length-append (omega (arith, digits_fit 2 n (omega arith))) in
    let is = whole made short in
    rw c.in-Ok.is (record { whole = is; short = rw is short })
