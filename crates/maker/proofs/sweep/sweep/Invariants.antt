-- `sweep::sweep` meets its contract: the addresses below the next one have been visited.
use Rattle.std.specs.Prelude.{Ok}
use Rattle.maker.specs.Making.{LawfulAt}
use Rattle.maker.proofs.Sweeps.{EachBelow}
use Rattle.maker.proofs.sweep.sweep.Given as goal

abbrev pub invariant-loop-address : goal.invariant-loop-address
invariant-loop-address l = EachBelow l.image (LawfulAt l.image) l.initial.certificate l.certificate l.address (Ok l.changed)
