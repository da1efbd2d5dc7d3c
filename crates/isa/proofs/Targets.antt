-- Where an instruction that was decoded may jump to is a program address.
use Prim.Native.Nat.{ℕ, ◌<◌}
use native.Mathlib.Omega.{arith}
use mathlib.Core.Path.{◌≡◌}
use mathlib.Core.List.{List}
use lib.IntN.{ℤ, pos, negsuc, ◌+ℤ◌}
use Rattle.std.specs.Prelude.{Option, Some, None}
use Rattle.isa.specs.Displacement.{modulo, forward_of, short_displacement, long_displacement, target_of}
use Rattle.isa.specs.Table.{bytes_of}
use Rattle.isa.specs.Map.{Entry, JRNZ, JRNC, JRZ, JRC, CALL, JP, JRR, JRS, RES, SET, LD-A, LD-to, INC, DEC, ADD}
use Rattle.isa.specs.Map.{SUB, AND, CP, LDI-A, LDI-rr, ADDI, SUBI, ANDI, CPI, COM, RLC, RET, RETI, STOP, WAIT, #}
use Rattle.isa.specs.Map.{entry_of, extended, form_as, form_of}
use Rattle.isa.specs.ControlFlow.{flow_of}
use Rattle.isa.specs.declared.Instruction.{Instruction}
use Rattle.isa.specs.Refusals.{done}
use Rattle.isa.specs.Rom.{space_of}
use Rattle.isa.specs.Decode.{instruction, decode_at}
use Rattle.isa.specs.RoundTrip.{Bytes}
use Rattle.isa.specs.Targets.{InRange, TargetsInRange}
use Rattle.isa.proofs.AtAddress.{from_space}
use Rattle.isa.proofs.Halves.{space_bytes}
use Rattle.isa.proofs.Reading.{Read, reading, rom_byte, operand_byte}

-- a form that is an instruction stays in range
abbrev Reaches : ℕ → Option Instruction → Type 0
Reaches a (Some i) = InRange (flow_of i a)
Reaches a None = Unit {0}

remainder : (z : ℤ) → modulo 4096 z < 4096
remainder (pos n) = omega arith
remainder (negsuc n) = omega arith

displaced : (a : ℕ) (d : ℤ) → target_of a d < 4096
displaced a d = remainder (pos a +ℤ d)

whole : (k f : ℕ) → k < 256 → f < 256 → extended k f < 4096
whole k f hk hf = omega arith

by_entry : (a : ℕ) (e : Entry) (k f s : ℕ) → k < 256 → f < 256 → Reaches a (form_as e k f s)
unfolding form_as flow_of
by_entry a JRNZ k f s hk hf = displaced (forward_of a 1) (short_displacement k)
by_entry a JRNC k f s hk hf = displaced (forward_of a 1) (short_displacement k)
by_entry a JRZ k f s hk hf = displaced (forward_of a 1) (short_displacement k)
by_entry a JRC k f s hk hf = displaced (forward_of a 1) (short_displacement k)
by_entry a CALL k f s hk hf = whole k f hk hf
by_entry a JP k f s hk hf = whole k f hk hf
by_entry a JRR k f s hk hf = displaced (forward_of a 2) (long_displacement s)
by_entry a JRS k f s hk hf = displaced (forward_of a 2) (long_displacement s)
by_entry a RES k f s hk hf = tt
by_entry a SET k f s hk hf = tt
by_entry a (LD-A source) k f s hk hf = tt
by_entry a (LD-to source) k f s hk hf = tt
by_entry a (INC source) k f s hk hf = tt
by_entry a (DEC source) k f s hk hf = tt
by_entry a (ADD source) k f s hk hf = tt
by_entry a (SUB source) k f s hk hf = tt
by_entry a (AND source) k f s hk hf = tt
by_entry a (CP source) k f s hk hf = tt
by_entry a LDI-A k f s hk hf = tt
by_entry a LDI-rr k f s hk hf = tt
by_entry a ADDI k f s hk hf = tt
by_entry a SUBI k f s hk hf = tt
by_entry a ANDI k f s hk hf = tt
by_entry a CPI k f s hk hf = tt
by_entry a COM k f s hk hf = tt
by_entry a RLC k f s hk hf = tt
by_entry a RET k f s hk hf = tt
by_entry a RETI k f s hk hf = tt
by_entry a STOP k f s hk hf = tt
by_entry a WAIT k f s hk hf = tt
by_entry a # k f s hk hf = tt

-- in program space as it stands
pub in_range_there : (image : List ℕ) → Bytes image → (a : ℕ) (i : Instruction) (n c : ℕ)
    → decode_at image a ≡ done (instruction i n c) → InRange (flow_of i a)
unfolding form_of
in_range_there image all a i n c q =
    let r : Read image a i n = reading image a i n c q in
    let hk : r.k < 256 = rom_byte image all a r.k r.opcode in
    let hf : r.f < 256 = operand_byte image all a 1 (bytes_of (entry_of r.k)) r.f r.first in
    rw r.form at (by_entry a (entry_of r.k) r.k r.f r.s hk hf)

pub targets_in_range : TargetsInRange
targets_in_range image all bank a i n c q =
    in_range_there (space_of image bank) (space_bytes image bank all) a i n c (from_space image bank a i n c q)
