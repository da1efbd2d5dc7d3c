-- `step::step_lent` meets its contract.
use mathlib.Core.Path.{sym, ap, ◌∙◌}
use Rattle.control.proofs.StaysWellFormed.{formed_exactly}
use Rattle.machine.specs.State.{machine_of}
use Rattle.machine.specs.Actions.{action_of}
use Rattle.machine.specs.Step.{Step, acted_of, step_of}
use Rattle.machine.specs.Operands.{step_read_of}
use Rattle.machine.proofs.Due.{action_due}
use Rattle.machine.proofs.step.step_lent.Goals as goal

pub returns-then-not-is_image_length : goal.returns-then-not-is_image_length
unfolding step_of step_read_of action_of acted_of
returns-then-not-is_image_length c =
    rw (← c.is_image_length.ensures, c.if-not-is_image_length.true)
    (c.refused_step.ensures.0 _ _, c.refused_step.ensures.1, c.refused_step.ensures.2)

pub returns-then-not-is_well_formed : goal.returns-then-not-is_well_formed
unfolding step_of step_read_of action_of acted_of
returns-then-not-is_well_formed c =
    rw (← c.is_image_length.ensures, c.if-not-is_image_length.false)
    (rw (← c.is_well_formed.ensures, c.if-not-is_well_formed.true)
    (c.refused_step-then-not-is_well_formed.ensures.0 _ _, c.refused_step-then-not-is_well_formed.ensures.1, c.refused_step-then-not-is_well_formed.ensures.2))

pub returns-then-not-names_only_sources : goal.returns-then-not-names_only_sources
unfolding step_of step_read_of action_of acted_of
returns-then-not-names_only_sources c =
    rw (← c.is_image_length.ensures, c.if-not-is_image_length.false)
    (rw (← c.is_well_formed.ensures, c.if-not-is_well_formed.false)
    (rw (← c.names_only_sources.ensures, c.if-not-names_only_sources.true)
    (c.refused_step-then-not-names_only_sources.ensures.0 _ _, c.refused_step-then-not-names_only_sources.ensures.1, c.refused_step-then-not-names_only_sources.ensures.2)))

pub due-action-requires : goal.due-action-requires
due-action-requires c = (
  sym c.is_image_length.ensures ∙ c.if-not-is_image_length.false,
  (formed_exactly.facts _ _ (sym c.is_well_formed.ensures ∙ c.if-not-is_well_formed.false)).pc,
)

pub act-requires : goal.act-requires
act-requires c =
    sym c.is_image_length.ensures ∙ c.if-not-is_image_length.false

pub returns : goal.returns
unfolding step_of step_read_of
returns c =
    let a = c.args in
    let image = a.image.now in
    let m = machine_of a.c a.stack.now a.flags a.bytes.now in
    let is-due =
    c.due-action.ensures a.stack.now a.flags
    ∙ sym (action_due image m a.request
    (sym c.is_image_length.ensures ∙ c.if-not-is_image_length.false)
    (sym c.is_well_formed.ensures ∙ c.if-not-is_well_formed.false)
    (sym c.names_only_sources.ensures ∙ c.if-not-names_only_sources.false)) in
    let step = rw is-due at c.act.ensures.0 in
    (step, rw (is-due, ap (λ (s : Step). s.answer) step) at c.act.ensures.1, rw (← is-due, c.act.ensures.2))
