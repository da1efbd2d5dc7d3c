-- `lines::without_last` meets its contract.
use Rattle.std.proofs.lemmas.Option.{MatchOption-at_none}
use Rattle.intel_hex.proofs.LineLaws.{none_off, last_off, last_stays}
use Rattle.intel_hex.proofs.lines.without_last.Goals as goal

pub returns-in-Some : goal.returns-in-Some
returns-in-Some c =
    rw (c.in-Some.ensures.cases.0, c.if-end-last.true) (last_off c.args.last c.in-Some.less.now)

pub returns-in_default : goal.returns-in_default
returns-in_default c =
    last_stays c.args.last c.in-Some.end.now c.in-Some.less.now c.args.bytes.now c.in-Some.ensures.cases.0
    c.if-end-last.false

pub returns-in_default-2 : goal.returns-in_default-2
returns-in_default-2 c =
    none_off c.args.last c.args.bytes.now (MatchOption-at_none _ _ c.in_default.is c.split_last.ensures.cases)
