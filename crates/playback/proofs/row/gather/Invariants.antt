-- `row::gather` meets its contract. The loop's invariant: the first i requests are those of a row.
use Rattle.std.proofs.Common.{◌≡◌, length}
use Rattle.playback.specs.Row.{Gathered}
use Rattle.playback.proofs.row.gather.Given as goal

abbrev pub invariant-loop-i : goal.invariant-loop-i
invariant-loop-i l = record {
  room : length l.requests ≡ 4096;
  row : Gathered l.body l.requests l.i;
}
