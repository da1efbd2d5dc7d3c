-- `Record::sum` meets its contract. The loop's invariant: with the bytes from k on, the sum is that of all.
use Rattle.std.proofs.Common.{◌≡◌, ◌+◌, ◌*◌, ◌≤◌, drop}
use Rattle.intel_hex.specs.Digits.{bytes_of, total}
use Rattle.intel_hex.proofs.record.Record.sum.Given as goal

abbrev pub invariant-loop-k : goal.invariant-loop-k
invariant-loop-k l =
    (l.sum ≤ 255 * l.k)
    × (l.sum + total (drop l.k (bytes_of l.self.digits.now)) ≡ total (bytes_of l.self.digits.now))
