-- `spread::raise_one` meets its contract.
use native.Mathlib.Omega.{arith}
use Rattle.certificate.proofs.SourceLevels.{need_most}
use Rattle.maker.proofs.Rising.{impossible}
use Rattle.maker.proofs.Edges.{raised_one}
use Rattle.maker.proofs.spread.raise_one.Goals as goal

pub overflow_add-need : goal.overflow_add-need
overflow_add-need g c = omega (arith, need_most _ _ c.need_at.ensures, c.in-Some.ensures.levels_are)

pub returns-in_err-changed : goal.returns-in_err-changed
returns-in_err-changed g c =
    rw (impossible c.from_residual.result c.from_residual.ensures.0)
    (raised_one _ c.in-Some.ensures (rw (c.from_of-from.ensures, c.need_at.ensures) at c.in_err-changed.ensures))

pub returns-then-changed : goal.returns-then-changed
returns-then-changed g c =
    raised_one _ c.in-Some.ensures (rw (c.from_of-from.ensures, c.need_at.ensures) at c.in_ok-changed.ensures)

pub returns-else-changed : goal.returns-else-changed
returns-else-changed g c =
    raised_one _ c.in-Some.ensures (rw (c.from_of-from.ensures, c.need_at.ensures) at c.in_ok-changed.ensures)
