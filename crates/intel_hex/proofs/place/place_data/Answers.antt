-- `place::place_data` meets its contract.
use Rattle.std.proofs.Common.{◌+◌, ◌*◌, ◌≤◌, sym, ◌∙◌, arith, length}
use Rattle.intel_hex.specs.Digits.{byte_at}
use Rattle.intel_hex.proofs.DigitLaws.{byte_at_most}
use Rattle.intel_hex.proofs.PlaceLaws.{turn_outside, turn_differs, turn_placed, turns_end}
use Rattle.intel_hex.proofs.place.place_data.Goals as goal

pub overflow_add-address : goal.overflow_add-address
overflow_add-address c =
    let digits = c.args.record.digits.now in
    omega (
      arith,
      c.address-start.ensures,
      c.count-k-end.ensures,
      byte_at_most digits 0,
      byte_at_most digits 1,
      byte_at_most digits 2,
    )

pub returns-then-not-is_inside : goal.returns-then-not-is_inside
returns-then-not-is_inside c =
    let loop = c.loop-k in
    let digits = c.args.record.digits.now in
    let whole : 8 + byte_at digits 0 * 2 ≤ length digits = omega (arith, c.args.record.whole) in
    sym (turn_outside c.args.first _ loop.memory digits (byte_at digits 0) loop.k whole
    (omega (arith, c.count-k-end.ensures)) (sym c.is_inside.ensures ∙ c.if-not-is_inside.true))
    ∙ loop.invariant

pub returns-then-not-cell_agrees : goal.returns-then-not-cell_agrees
returns-then-not-cell_agrees c =
    let loop = c.loop-k in
    let digits = c.args.record.digits.now in
    let whole : 8 + byte_at digits 0 * 2 ≤ length digits = omega (arith, c.args.record.whole) in
    sym (turn_differs c.args.first _ loop.memory digits (byte_at digits 0) loop.k c.byte-byte.result whole
    (omega (arith, c.count-k-end.ensures)) c.byte-byte.ensures
    (sym c.is_inside.ensures ∙ c.if-not-is_inside.false)
    (sym c.cell_agrees.ensures ∙ c.if-not-cell_agrees.true))
    ∙ loop.invariant

pub loop-k-preserved : goal.loop-k-preserved
loop-k-preserved c =
    let loop = c.loop-k in
    let digits = c.args.record.digits.now in
    let whole : 8 + byte_at digits 0 * 2 ≤ length digits = omega (arith, c.args.record.whole) in
    turn_placed c.args.first _ loop.memory digits (byte_at digits 0) loop.k c.byte-byte.result whole
    (omega (arith, c.count-k-end.ensures)) c.byte-byte.ensures
    (sym c.is_inside.ensures ∙ c.if-not-is_inside.false)
    (sym c.cell_agrees.ensures ∙ c.if-not-cell_agrees.false)
    ∙ loop.invariant

pub returns : goal.returns
returns c =
    let loop = c.loop-k in
    let digits = c.args.record.digits.now in
    let whole : 8 + byte_at digits 0 * 2 ≤ length digits = omega (arith, c.args.record.whole) in
    turns_end c.args.first _ loop.memory digits (byte_at digits 0) loop.k whole
    (omega (arith, c.count-k-end.ensures, c.loop-k-test.false))
    ∙ loop.invariant
