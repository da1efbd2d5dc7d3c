-- `width::width` meets its contract. That no step of an accepted image stops is demand 3.
use mathlib.Core.Path.{sym, ap, ◌∙◌}
use borrow.Author.Tests.{le-leb, lt-leb}
use Rattle.gauge.specs.Sleep.{size_of}
use Rattle.gauge.specs.Width.{width_of}
use Rattle.gauge.proofs.NeverStops.{ready}
use Rattle.gauge.proofs.width.width.Goals as goal

pub returns-then-image-gt-PROGRAM_SPACE : goal.returns-then-image-gt-PROGRAM_SPACE
unfolding width_of
returns-then-image-gt-PROGRAM_SPACE c = rw (lt-leb _ _ c.if-image-gt-PROGRAM_SPACE.true)

pub returns-in_default : goal.returns-in_default
unfolding width_of
returns-in_default c = rw (le-leb _ _ c.if-image-gt-PROGRAM_SPACE.false, ← c.in_default.ensures)

pub measure-requires : goal.measure-requires
measure-requires c =
    rw c.start.ensures
    (ready c.args.image.now c.args.certificate.now _
    (sym c.in-Ok.ensures) c.args.count)

pub returns : goal.returns
unfolding width_of
returns c =
    rw (le-leb _ _ c.if-image-gt-PROGRAM_SPACE.false, ← c.in-Ok.ensures)
    (c.measure.ensures ∙ ap (size_of _) c.start.ensures)
