-- The length that decoding answers is that of the instruction's form.
use Prim.Native.Nat.{ℕ}
use mathlib.Core.Path.{◌≡◌, refl, sym, ◌∙◌}
use mathlib.Core.List.{List}
use Rattle.std.specs.Prelude.{Option, Some, None}
use Rattle.isa.specs.declared.Instruction.{Instruction}
use Rattle.isa.specs.Table.{bytes_of}
use Rattle.isa.specs.Map.{Addressing, rr, short, [X], [Y], Entry, JRNZ, JRNC, JRZ, JRC, CALL, JP, JRR, JRS, RES}
use Rattle.isa.specs.Map.{SET, LD-A, LD-to, INC, DEC, ADD, SUB, AND, CP, LDI-A, LDI-rr, ADDI, SUBI, ANDI, CPI}
use Rattle.isa.specs.Map.{COM, RLC, RET, RETI, STOP, WAIT, #, entry_of, form_as, form_of}
use Rattle.isa.specs.Lengths.{length_of, DecodedLength}
use Rattle.isa.specs.Rom.{space_of}
use Rattle.isa.proofs.AtAddress.{from_space}
use Rattle.isa.proofs.Reading.{Read, reading}

-- a form that is an instruction has the given length
abbrev Long : ℕ → Option Instruction → Type 0
Long n (Some i) = n ≡ length_of i
Long n None = Unit {0}

-- on a data operand the length goes by the operand, whatever the instruction
by_source : (source : Addressing) (k f s : ℕ) → Long (bytes_of (LD-A source)) (form_as (LD-A source) k f s)
unfolding bytes_of form_as
by_source rr k f s = refl
by_source (short r) k f s = refl
by_source [X] k f s = refl
by_source [Y] k f s = refl

by_entry : (e : Entry) (k f s : ℕ) → Long (bytes_of e) (form_as e k f s)
unfolding bytes_of form_as
by_entry JRNZ k f s = refl
by_entry JRNC k f s = refl
by_entry JRZ k f s = refl
by_entry JRC k f s = refl
by_entry CALL k f s = refl
by_entry JP k f s = refl
by_entry JRR k f s = refl
by_entry JRS k f s = refl
by_entry RES k f s = refl
by_entry SET k f s = refl
by_entry (LD-A source) k f s = by_source source k f s
by_entry (LD-to source) k f s = by_source source k f s
by_entry (INC source) k f s = by_source source k f s
by_entry (DEC source) k f s = by_source source k f s
by_entry (ADD source) k f s = by_source source k f s
by_entry (SUB source) k f s = by_source source k f s
by_entry (AND source) k f s = by_source source k f s
by_entry (CP source) k f s = by_source source k f s
by_entry LDI-A k f s = refl
by_entry LDI-rr k f s = refl
by_entry ADDI k f s = refl
by_entry SUBI k f s = refl
by_entry ANDI k f s = refl
by_entry CPI k f s = refl
by_entry COM k f s = refl
by_entry RLC k f s = refl
by_entry RET k f s = refl
by_entry RETI k f s = refl
by_entry STOP k f s = refl
by_entry WAIT k f s = refl
by_entry # k f s = tt

pub decoded_length : DecodedLength
unfolding form_of
decoded_length image bank a i n c q =
    let space : List ℕ = space_of image bank in
    let r : Read space a i n = reading space a i n c (from_space image bank a i n c q) in
    sym r.count ∙ (rw r.form at (by_entry (entry_of r.k) r.k r.f r.s))
