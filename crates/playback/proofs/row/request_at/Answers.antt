-- `row::request_at` meets its contract.
use Rattle.std.proofs.Common.{sym}
use Rattle.playback.proofs.Gathering.{step_at}
use Rattle.playback.proofs.row.request_at.Goals as goal

pub returns-then-names_only_sources : goal.returns-then-names_only_sources
returns-then-names_only_sources c =
    let part = c.in_ok-get.ensures.lookup.0 in
    step_at _ _ part.0 _ part.2 _ _ _ c.in-Some-Step-default.ensures c.in-Some-Step-default.field-0-0-is
    (sym c.if-names_only_sources.ensures)
