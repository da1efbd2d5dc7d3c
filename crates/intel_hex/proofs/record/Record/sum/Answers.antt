-- `Record::sum` meets its contract.
use Rattle.std.proofs.Common.{◌<◌, ap, arith, length}
use Rattle.std.proofs.Math.ListN.{drop_of_length-le}
use Rattle.intel_hex.specs.Digits.{bytes_of, total}
use Rattle.intel_hex.proofs.DigitLaws.{byte_at_most, pairs, total_step, total_none}
use Rattle.intel_hex.proofs.record.Record.sum.Goals as goal

pub overflow_add-sum : goal.overflow_add-sum
overflow_add-sum c =
    omega (arith, c.count-k-end.ensures, byte_at_most c.args.self.digits.now 0, c.from-sum.ensures)

pub loop-k-preserved : goal.loop-k-preserved
loop-k-preserved c =
    let digits = c.args.self.digits.now in
    let more : c.loop-k.k < length (bytes_of digits) =
    omega (arith, (pairs digits).1, c.args.self.whole, c.count-k-end.ensures) in (
      omega (arith, c.from-sum.ensures),
      omega (arith, c.from-sum.ensures, c.byte.ensures, total_step digits c.loop-k.k more),
    )

pub returns : goal.returns
returns c =
    let digits = c.args.self.digits.now in
    let over = drop_of_length-le (bytes_of digits) {i = c.loop-k.k}
    (omega (arith, (pairs digits).0, c.args.self.whole, c.count-k-end.ensures)) in
    omega (arith, ap total over, total_none)
