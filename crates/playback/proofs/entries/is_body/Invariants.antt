-- `entries::is_body` meets its contract. The loop's invariant: the rest is read exactly where the body is.
use Rattle.std.proofs.Common.{◌≡◌, length}
use Rattle.playback.specs.Entries.{is_body}
use Rattle.playback.proofs.entries.is_body.Given as goal

abbrev pub invariant-loop-size : goal.invariant-loop-size
invariant-loop-size l = is_body l.rest ≡ is_body l.body

abbrev pub decreases-loop-size : goal.decreases-loop-size
decreases-loop-size l = length l.rest
