-- `requests::requested` meets its contract: the sources from the index on give the result.
use Rattle.std.proofs.Common.{◌≤◌, refl, sym, ◌∙◌, arith}
use Rattle.std.proofs.lemmas.List.{at_drop_all}
use Rattle.control.specs.Requests.{requested_of}
use Rattle.control.proofs.FirstTaken.{sources, first_taken, first_at}
use Rattle.control.proofs.requests.requested.Goals as goal

pub returns-then-request-eq0 : goal.returns-then-request-eq0
unfolding requested_of
returns-then-request-eq0 c = rw c.if-request-eq0.true

pub loop-source-init : goal.loop-source-init
unfolding requested_of
loop-source-init c = refl

pub returns-then-is_taken : goal.returns-then-is_taken
returns-then-is_taken c =
    let e = sym c.if-is_taken.true ∙ c.is_taken.ensures in
    sym (first_at _ _ _ sources _ _ c.loop-source-test.true e) ∙ c.loop-source.invariant

pub loop-source-preserved : goal.loop-source-preserved
loop-source-preserved c =
    let e = sym c.if-is_taken.false ∙ c.is_taken.ensures in
    sym (first_at _ _ _ sources _ _ c.loop-source-test.true e) ∙ c.loop-source.invariant

pub returns : goal.returns
returns c =
    let past : 5 ≤ c.loop-source.source-index = omega arith in
    sym (at_drop_all (first_taken c.args.mode c.args.enabled c.args.request) sources _ past) ∙ c.loop-source.invariant
