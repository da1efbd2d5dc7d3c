-- `sweep::sweep` meets its contract: the addresses below the next one have been visited.
use mathlib.Core.Path.{refl}
use Rattle.maker.specs.Making.{LawfulAt}
use Rattle.maker.proofs.Rising.{impossible, stopped}
use Rattle.maker.proofs.Sweeps.{passed_none, each_more, passed_all}
use Rattle.maker.proofs.sweep.sweep.Goals as goal

pub loop-address-init : goal.loop-address-init
loop-address-init c = passed_none refl

pub returns-in_err-changed : goal.returns-in_err-changed
returns-in_err-changed c =
    rw (impossible c.from_residual.result c.from_residual.ensures.0)
    (λ w s. stopped (each_more (LawfulAt c.args.image.now) c.loop-address.invariant c.in_err-changed.ensures w s))

pub loop-address-preserved : goal.loop-address-preserved
loop-address-preserved c = each_more (LawfulAt c.args.image.now) c.loop-address.invariant c.in_ok-changed.ensures

pub returns : goal.returns
returns c = passed_all c.loop-address-test.false c.loop-address.invariant
