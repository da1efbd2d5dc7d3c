-- `place::place_data` meets its contract. The loop's invariant: placing the data from k on decides.
use Rattle.std.proofs.Common.{◌≡◌, ◌+◌, drop}
use Rattle.intel_hex.specs.Digits.{byte_at, bytes_of}
use Rattle.intel_hex.specs.Place.{address_of, data_of, placed}
use Rattle.intel_hex.proofs.place.place_data.Given as goal

abbrev pub invariant-loop-k : goal.invariant-loop-k
invariant-loop-k l =
    let bytes = bytes_of l.record.digits.now in
    let placing = data_of (byte_at l.record.digits.now 0) bytes in
    placed l.first (l.start + l.k) l.memory (drop l.k placing)
    ≡ placed l.first (address_of bytes) l.initial.memory placing
