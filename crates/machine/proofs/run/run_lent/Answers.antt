-- `run::run_lent` meets its contract.
use borrow.Author.Tests.{le-leb, lt-leb}
use Rattle.machine.specs.Run.{run_of}
use Rattle.machine.proofs.run.run_lent.Goals as goal

pub returns-then-not-is_image_length : goal.returns-then-not-is_image_length
unfolding run_of
returns-then-not-is_image_length c =
    rw (
      ← c.is_image_length.ensures,
      c.if-not-is_image_length.true,
    )
    (c.refused_run.ensures _ _)

pub returns-then-not-is_well_formed : goal.returns-then-not-is_well_formed
unfolding run_of
returns-then-not-is_well_formed c =
    rw (
      ← c.is_image_length.ensures,
      c.if-not-is_image_length.false,
    )
    (rw (← c.is_well_formed.ensures, c.if-not-is_well_formed.true)
    (c.refused_run-then-not-is_well_formed.ensures _ _))

pub returns-then-n-gt-MOST_STEPS : goal.returns-then-n-gt-MOST_STEPS
unfolding run_of
returns-then-n-gt-MOST_STEPS c =
    rw (
      ← c.is_image_length.ensures,
      c.if-not-is_image_length.false,
    )
    (rw (← c.is_well_formed.ensures, c.if-not-is_well_formed.false)
    (rw (lt-leb _ _ c.if-n-gt-MOST_STEPS.true) (c.refused_run-then-n-gt-MOST_STEPS.ensures _ _)))

pub returns-then-not-requests_fit : goal.returns-then-not-requests_fit
unfolding run_of
returns-then-not-requests_fit c =
    rw (
      ← c.is_image_length.ensures,
      c.if-not-is_image_length.false,
    )
    (rw (← c.is_well_formed.ensures, c.if-not-is_well_formed.false)
    (rw (
      le-leb _ _ c.if-n-gt-MOST_STEPS.false,
      ← c.requests_fit.ensures,
      c.if-not-requests_fit.true,
    )
    (c.refused_run-then-not-requests_fit.ensures _ _)))
