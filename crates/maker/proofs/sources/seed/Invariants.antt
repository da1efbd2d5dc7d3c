-- `sources::seed` meets its contract: the vectors of the first sources have been demanded.
use Rattle.std.specs.Prelude.{Ok}
use Rattle.maker.specs.Making.{Seeds}
use Rattle.maker.proofs.Sweeps.{SeededFirst}
use Rattle.maker.proofs.sources.seed.Given as goal

abbrev pub invariant-loop-source : goal.invariant-loop-source
invariant-loop-source l = Seeds l.wired (SeededFirst l.wired l.source-index) l.fn.certificate l.certificate (Ok l.changed)
