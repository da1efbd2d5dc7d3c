-- The machine as a whole: reset, a fresh machine, host store (document 01, "Modes, stack, sleep" and "What each
-- operation turns down").
use Rattle.std.specs.Prelude.{ℕ, Bool, false, not, List, set, replicate}
use Rattle.alu.specs.declared.Flags.{Flags}
use Rattle.isa.specs.Refusals.{plain, Ended, done, refused, answered, unless}
use Rattle.isa.specs.Sources.{reset_vector}
use Rattle.data.specs.Space.{in_window, store_of}
use Rattle.data.specs.Effect.{Data, data_of}
use Rattle.control.specs.declared.Mode.TheVariants.{Reset}
use Rattle.control.specs.declared.Control.{Control}
use Rattle.control.specs.WellFormed.{well_formed}
use Rattle.machine.specs.declared.FlagPairs.{FlagPairs}
use Rattle.machine.specs.declared.Machine.{Machine}
use Rattle.machine.specs.declared.Stored.{Stored}
use Rattle.machine.specs.Pairs.{pair_of}

abbrev pub machine_of : Control → (stack : List ℕ) → FlagPairs → (bytes : List ℕ) → Machine
machine_of c stack flags bytes = record { control = c; stack = stack; flags = flags; bytes = bytes }

-- what an instruction sees of data: the bytes, and the flag pair of the mode
abbrev pub view_of : Machine → Data
view_of m = data_of m.bytes (pair_of m.flags m.control.mode)

-- "Host store: 2 ill-formed machine"
abbrev pub is_well_formed : Machine → Bool
is_well_formed m = well_formed m.stack m.control

abbrev pub cleared_flags : Flags
cleared_flags = record { zero = false; carry = false }

abbrev pub cleared_pairs : FlagPairs
cleared_pairs = record { normal = cleared_flags; interrupt = cleared_flags; nmi = cleared_flags }

-- "Reset sets PC to FFEh, empties the stack, wakes the machine, sets mode reset"
abbrev pub reset_control : Control
reset_control = record { pc = reset_vector; levels = 0; mode = Reset; asleep = false }

-- ", clears six flags, 0C8h and 0C9h, and keeps other data", but 0CAh: "reset clears it, in every machine" (document 02,
-- W-210); and writes 0 to the six slots
unfoldable pub reset_of : Machine → Machine
reset_of m = machine_of reset_control (replicate 6 0) cleared_pairs (set (set (set m.bytes 0xC8 0) 0xC9 0) 0xCA 0)

-- "A fresh machine is a reset one with all data 0."
unfoldable pub fresh_of : Machine
fresh_of = reset_of (machine_of reset_control (replicate 6 0) cleared_pairs (replicate 256 0))

-- a machine after a host store, and how that ended
pub record HostStore : Type 0 where
  pub machine : Machine
  pub ending : Ended

abbrev pub stored_of : Stored → HostStore
stored_of r = record { machine = r.machine; ending = answered r.ending }

abbrev pub host_stored : Machine → Ended → HostStore
host_stored m ending = record { machine = m; ending = ending }

abbrev pub with_byte : Machine → (a value : ℕ) → Machine
with_byte m a value = machine_of m.control m.stack m.flags (store_of m.bytes a value)

-- "Host store: 2 ill-formed machine [..]; 10 address in 40h–7Fh"
unfoldable pub host_store_of : Machine → (a value : ℕ) → HostStore
host_store_of m a value =
    unless (is_well_formed m) (host_stored m (refused (plain 2)))
    (unless (not (in_window a)) (host_stored m (refused (plain 10)))
    (host_stored (with_byte m a value) (done tt)))
