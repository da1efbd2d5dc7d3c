-- `line::refusal_line` meets its contract: with at most three digits the line is whole.
use Rattle.std.proofs.Common.{◌≤◌, ◌++◌, arith, length, length-append}
use Rattle.text_line.specs.Digits.{decimal_of, three_digits}
use Rattle.text_line.proofs.Decimal.{digits_fit}
use Rattle.text_line.proofs.LineLaws.{both, empty, then, whole}
use Rattle.jobs.specs.Line.{line_of, newline, refused_word, space}
use Rattle.jobs.proofs.line.refusal_line.Goals as goal

pub returns-in-Plain : goal.returns-in-Plain
unfolding line_of
returns-in-Plain c =
    let n = c.in-Plain.n in
    let made = then (empty c.new.ensures) (both c.word-line.ensures (both c.decimal.ensures c.letter.ensures)) in
    let short : length (refused_word ++ (decimal_of n ++ newline)) ≤ 16 =
    simp length-append (omega (arith, digits_fit 2 n (omega arith))) in
    let is = whole made short in
    rw c.in-Plain.is (record { whole = is; short = rw is short })

pub returns-in-Located : goal.returns-in-Located
unfolding line_of
returns-in-Located c =
    let n = c.in-Located.n in
    let a = c.in-Located.a in
    let address = both c.letter-in-Located.ensures (both c.address.ensures c.letter-in-Located-2.ensures) in
    let made = then (empty c.new.ensures) (both c.word-line.ensures (both c.decimal-in-Located.ensures address)) in
    let short : length (refused_word ++ (decimal_of n ++ (space ++ (three_digits a ++ newline)))) ≤ 16 =
    simp length-append (omega (arith, digits_fit 2 n (omega arith))) in
    let is = whole made short in
    rw c.in-Located.is (record { whole = is; short = rw is short })
