-- `sweep::settle` meets its contract: every mark is forced, and each pass that changes them leaves less room.
use mathlib.Core.Path.{refl}
use Rattle.maker.proofs.Final.{accepted_least, none_left}
use Rattle.maker.proofs.sweep.settle.Goals as goal

pub returns-in-Ok : goal.returns-in-Ok
returns-in-Ok c = accepted_least c.loop-levels.invariant c.in-Ok.ensures

pub returns-then-not-branch : goal.returns-then-not-branch
returns-then-not-branch c = (
  none_left c.loop-levels.invariant (rw c.if-not-branch.true at c.in_ok-pass.ensures).told.1
      c.requires.1 c.in_default.ensures,
  refl,
)
