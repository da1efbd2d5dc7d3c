-- `lines::read_lines` meets its contract. The loop's invariant: the lines from here on decide.
use Rattle.std.proofs.Common.{◌≡◌, ◌+◌, ◌≤◌, false, length}
use Rattle.intel_hex.specs.Lines.{lines_of}
use Rattle.intel_hex.specs.Read.{after_lines}
use Rattle.intel_hex.proofs.lines.read_lines.Given as goal

abbrev pub invariant-loop-rest : goal.invariant-loop-rest
invariant-loop-rest l =
    (l.number + length l.rest ≤ length l.text + 1)
    × (after_lines l.first l.ended l.number l.memory (lines_of l.rest)
    ≡ after_lines l.first false 1 l.initial.memory (lines_of l.text))

abbrev pub decreases-loop-rest : goal.decreases-loop-rest
decreases-loop-rest l = length l.rest
