-- The table is the map's: the map's rule is a test at each of its 256 entries, which antt computes.
use Prim.Native.Nat.{◌/◌, ◌%◌}
use lib.ListN.{get_or}
use Rattle.isa.specs.declared.table.TheConstants.{TIMINGS}
use Rattle.isa.specs.Table.{bytes_of, cycles_of, Timings}
use Rattle.isa.specs.Map.{entry_of}
use Rattle.isa.proofs.Finite.{same_n}

pub timings : Timings TIMINGS
unfolding entry_of bytes_of cycles_of
timings = record {
  lengths = same_n (λ k. get_or TIMINGS k 0 / 16) (λ k. bytes_of (entry_of k)) tt;
  cycles = same_n (λ k. get_or TIMINGS k 0 % 16) (λ k. cycles_of (entry_of k)) tt;
}
