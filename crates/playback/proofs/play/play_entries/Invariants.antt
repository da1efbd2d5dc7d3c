-- `play::play_entries` meets its contract. The loop's invariant: from the machine that is held on, the rest is played
-- as the whole playing is.
use Rattle.std.proofs.Common.{length}
use Rattle.playback.proofs.Held.{Held}
use Rattle.playback.proofs.play.play_entries.Given as goal

abbrev pub invariant-loop-entry : goal.invariant-loop-entry
invariant-loop-entry l = Held l.image l.body l.rest l.machine l.entries l.cycles

abbrev pub decreases-loop-entry : goal.decreases-loop-entry
decreases-loop-entry l = length l.rest
