-- The cycles that decoding answers have a digit, as in the table.
use Prim.Native.Nat.{ℕ, ◌<◌}
use mathlib.Core.Path.{◌≡◌, refl, sym, subst}
use mathlib.Core.Bool.{true}
use mathlib.Core.List.{List}
use lib.Dec.{ltb}
use borrow.Author.Tests.{ltb-true}
use Rattle.std.specs.Prelude.{Option, Some, None}
use Rattle.isa.specs.declared.Instruction.{Instruction}
use Rattle.isa.specs.Refusals.{Answer, done, refused}
use Rattle.isa.specs.Table.{bytes_of, cycles_of}
use Rattle.isa.specs.Map.{Entry, JRNZ, JRNC, JRZ, JRC, CALL, JP, JRR, JRS, RES}
use Rattle.isa.specs.Map.{SET, LD-A, LD-to, INC, DEC, ADD, SUB, AND, CP, LDI-A, LDI-rr, ADDI, SUBI, ANDI, CPI}
use Rattle.isa.specs.Map.{COM, RLC, RET, RETI, STOP, WAIT, #, entry_of, form_of}
use Rattle.isa.specs.Rom.{rom_at, operand_at}
use Rattle.isa.specs.Decode.{Decoding, instruction, with_form, with_second, with_first, with_opcode, decode_of}

by_entry : (e : Entry) → ltb (cycles_of e) 16 ≡ true
unfolding cycles_of
by_entry JRNZ = refl
by_entry JRNC = refl
by_entry JRZ = refl
by_entry JRC = refl
by_entry CALL = refl
by_entry JP = refl
by_entry JRR = refl
by_entry JRS = refl
by_entry RES = refl
by_entry SET = refl
by_entry (LD-A source) = refl
by_entry (LD-to source) = refl
by_entry (INC source) = refl
by_entry (DEC source) = refl
by_entry (ADD source) = refl
by_entry (SUB source) = refl
by_entry (AND source) = refl
by_entry (CP source) = refl
by_entry LDI-A = refl
by_entry LDI-rr = refl
by_entry ADDI = refl
by_entry SUBI = refl
by_entry ANDI = refl
by_entry CPI = refl
by_entry COM = refl
by_entry RLC = refl
by_entry RET = refl
by_entry RETI = refl
by_entry STOP = refl
by_entry WAIT = refl
by_entry # = refl

-- an answer that is an instruction has such cycles
abbrev Fit : Answer Decoding → Type 0
Fit (done (instruction i n cycles)) = cycles < 16
Fit (refused r) = Unit {0}

with_form_lem : (a k : ℕ) (x : Option Instruction) → Fit (with_form a k x)
with_form_lem a k (Some i) = ltb-true (cycles_of (entry_of k)) 16 (by_entry (entry_of k))
with_form_lem a k None = tt

with_second_lem : (a k f : ℕ) (r : Option ℕ) → Fit (with_second a k f r)
with_second_lem a k f (Some s) = with_form_lem a k (form_of k f s)
with_second_lem a k f None = tt

with_first_lem : (image : List ℕ) (a k : ℕ) (r : Option ℕ) → Fit (with_first image a k r)
with_first_lem image a k (Some f) = with_second_lem a k f (operand_at image a 2 (bytes_of (entry_of k)))
with_first_lem image a k None = tt

with_opcode_lem : (image : List ℕ) (a : ℕ) (r : Option ℕ) → Fit (with_opcode image a r)
with_opcode_lem image a (Some k) = with_first_lem image a k (operand_at image a 1 (bytes_of (entry_of k)))
with_opcode_lem image a None = tt

pub cycles_fit :
    (image : List ℕ) (a : ℕ) (i : Instruction) (n cycles : ℕ) →
    done (instruction i n cycles) ≡ decode_of image a → cycles < 16
cycles_fit image a i n cycles e = subst Fit (sym e) (with_opcode_lem image a (rom_at image a))
