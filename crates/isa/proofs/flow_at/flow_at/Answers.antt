-- `flow_at::flow_at` meets its contract: decoding's refusals, then where the form continues.
use Rattle.std.proofs.Common.{sym, ◌∙◌}
use Rattle.isa.proofs.EntryFlow.{undefined, continues}
use Rattle.isa.proofs.flow_at.flow_at.Goals as goal

pub returns-then-timing-eq0 : goal.returns-then-timing-eq0
returns-then-timing-eq0 c h low =
    rw (
      ← c.code_at.ensures h low,
      c.in-Some.is,
      undefined _ _ _ (sym c.timing_by_map-timing.ensures.0 ∙ c.if-timing-eq0.true),
    )

pub returns : goal.returns
returns c h low =
    rw (
      c.flow_by.ensures,
      c.forward.ensures,
      c.timing_by_map-timing.ensures.0,
      ← c.code_at.ensures h low,
      c.in-Some.is,
    )
    (sym (continues _ _ _ _ (λ none. c.if-timing-eq0.false (c.timing_by_map-timing.ensures.0 ∙ none))))
