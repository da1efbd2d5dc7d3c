-- `wired::bits_of` meets its contract. The loop's invariant: the byte so far, and the names in the rest, decide.
use Rattle.std.proofs.Common.{◌≡◌, ◌≤◌, length}
use Rattle.options.specs.Wired.{parts_of, wired_after}
use Rattle.options.proofs.wired.bits_of.Given as goal

abbrev pub invariant-loop-end : goal.invariant-loop-end
invariant-loop-end l =
    (length l.rest ≤ length l.names) × (wired_after l.byte (parts_of 44 l.rest) ≡ wired_after 0 (parts_of 44 l.names))

abbrev pub decreases-loop-end : goal.decreases-loop-end
decreases-loop-end l = length l.rest
