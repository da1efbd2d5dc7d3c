-- `Line::decimal` meets its contract: a number's digits are its last alone, or after those of its tenth part.
use Rattle.std.proofs.Common.{◌%◌, ◌≡◌, arith}
use Rattle.text_line.proofs.LineLaws.{both}
use Rattle.text_line.proofs.Decimal.{one_digit, more_digits}
use Rattle.text_line.proofs.line.Line.+decimal.Goals as goal

pub returns-then-n-lt10 : goal.returns-then-n-lt10
returns-then-n-lt10 g t c =
    let n = c.args.n in
    let same : n % 10 % 16 ≡ n = omega (arith, c.if-n-lt10.true) in
    rw (one_digit n c.if-n-lt10.true, ← same, ← c.digit-last.ensures) c.letter.ensures

pub returns : goal.returns
returns g t c =
    let n = c.args.n in
    let same : n % 10 ≡ n % 10 % 16 = omega arith in
    rw (more_digits n c.if-n-lt10.false, same, ← c.digit-last.ensures)
    (both c.decimal.ensures c.letter-2.ensures)
