-- `sources::seed` meets its contract: the vectors one after the other.
use Rattle.maker.proofs.Rising.{impossible, stopped}
use Rattle.maker.specs.Reach.{at_reset, here}
use Rattle.maker.proofs.Sweeps.{seeds_reset, seeds_more, seeds_all}
use Rattle.maker.proofs.sources.seed.Goals as goal

pub returns-in_err-changed : goal.returns-in_err-changed
returns-in_err-changed c =
    rw (impossible c.from_residual.result c.from_residual.ensures.0)
    (λ image s. stopped (c.in_err-changed.ensures image _ s at_reset here).0)

pub loop-source-init : goal.loop-source-init
loop-source-init c = seeds_reset _ c.in_ok-changed.ensures

pub loop-source-preserved : goal.loop-source-preserved
loop-source-preserved c = seeds_more _ _ c.loop-source.invariant c.in_ok-changed-2.ensures

pub returns : goal.returns
returns c = seeds_all _ _ c.loop-source-test.false c.loop-source.invariant
