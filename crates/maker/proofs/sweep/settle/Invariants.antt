-- `sweep::settle` meets its contract: every mark is forced, and each pass that changes them leaves less room.
use Rattle.maker.specs.Making.{Sound, room}
use Rattle.maker.proofs.sweep.settle.Given as goal

abbrev pub invariant-loop-levels : goal.invariant-loop-levels
invariant-loop-levels l = Sound l.image l.wired l.certificate

abbrev pub decreases-loop-levels : goal.decreases-loop-levels
decreases-loop-levels l = room l.certificate
