-- `marking::visit` meets its contract: no mark, no instruction, a misplaced one, then its successors.
use mathlib.Core.Path.{sym, ◌∙◌}
use Rattle.std.specs.Prelude.{Ok, Err}
use Rattle.maker.proofs.Rising.{impossible}
use Rattle.maker.proofs.Following.{in_space, successors_small, visits_none, visits_undecodable, visits_misplaced, visits}
use Rattle.maker.proofs.marking.visit.Goals as goal

pub returns-in_default : goal.returns-in_default
returns-in_default c = visits_none _ _ _ _ c.in_default.ensures

pub returns-in_default-flow_in : goal.returns-in_default-flow_in
returns-in_default-flow_in c =
    visits_undecodable _ _ _ _ _ c.in-Some.ensures
    (c.in_default-flow_in.ensures c.requires (in_space _ _ _ c.in-Some.ensures))

pub returns-then-not-is_placed : goal.returns-then-not-is_placed
returns-then-not-is_placed c =
    visits_misplaced _ _ _ _ _ c.in-Some.ensures
    (c.in-Ok.ensures c.requires (in_space _ _ _ c.in-Some.ensures))
    (sym c.is_placed.ensures ∙ c.if-not-is_placed.true)

pub follow_all-requires : goal.follow_all-requires
follow_all-requires c = successors_small _ _ _ c.successors_of-successors.ensures

pub returns-in_err-changed : goal.returns-in_err-changed
returns-in_err-changed c =
    rw (impossible c.from_residual.result c.from_residual.ensures.0)
    (visits _ _ _ _ _ c.in-Some.ensures
    (c.in-Ok.ensures c.requires (in_space _ _ _ c.in-Some.ensures)) _ (Err record {})
    (sym c.is_placed.ensures ∙ c.if-not-is_placed.false)
    c.successors_of-successors.ensures c.in_err-changed.ensures)

pub returns : goal.returns
returns c =
    visits _ _ _ _ _ c.in-Some.ensures
    (c.in-Ok.ensures c.requires (in_space _ _ _ c.in-Some.ensures)) _ (Ok c.in_ok-changed.changed)
    (sym c.is_placed.ensures ∙ c.if-not-is_placed.false)
    c.successors_of-successors.ensures c.in_ok-changed.ensures
