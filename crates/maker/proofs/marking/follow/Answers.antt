-- `marking::follow` meets its contract.
use native.Mathlib.Omega.{arith}
use Rattle.certificate.proofs.SourceLevels.{need_most}
use Rattle.maker.proofs.Rising.{impossible}
use Rattle.maker.proofs.Following.{stops, follows, follows_free}
use Rattle.maker.proofs.marking.follow.Goals as goal

pub overflow_add-need : goal.overflow_add-need
overflow_add-need c = omega (arith, need_most _ _ c.need_at.ensures, c.requires)

pub returns-in_err-marked : goal.returns-in_err-marked
returns-in_err-marked c = rw (impossible c.from_residual.result c.from_residual.ensures.0) (stops c.in_err-marked.ensures)

pub returns-then-need-eq0 : goal.returns-then-need-eq0
returns-then-need-eq0 c =
    follows_free c.in_ok-marked.ensures
    (rw c.need_at.ensures at c.if-need-eq0.true)

pub returns-in_err-raised : goal.returns-in_err-raised
returns-in_err-raised c =
    rw (impossible c.from_residual-in_err-raised.result c.from_residual-in_err-raised.ensures.0)
    (follows c.in_ok-marked.ensures (rw c.need_at.ensures at c.in_err-raised.ensures))

pub returns : goal.returns
returns c = follows c.in_ok-marked.ensures (rw c.need_at.ensures at c.in_ok-raised.ensures)
