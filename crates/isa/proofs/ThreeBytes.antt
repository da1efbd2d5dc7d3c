-- Of the two bytes that follow an opcode, those that its instruction does not have do not matter.
use Prim.Native.Nat.{ℕ}
use mathlib.Core.Path.{◌≡◌, refl}
use mathlib.Core.Bool.{Bool, true, false, cond}
use mathlib.Core.List.{List}
use lib.Dec.{ltb}
use Rattle.std.specs.Prelude.{Some}
use Rattle.isa.specs.Displacement.{forward_of}
use Rattle.isa.specs.Table.{bytes_of}
use Rattle.isa.specs.Map.{rr, short, [X], [Y], Entry, JRNZ, JRNC, JRZ, JRC, CALL, JP, JRR, JRS, RES}
use Rattle.isa.specs.Map.{SET, LD-A, LD-to, INC, DEC, ADD, SUB, AND, CP, LDI-A, LDI-rr, ADDI, SUBI, ANDI, CPI}
use Rattle.isa.specs.Map.{COM, RLC, RET, RETI, STOP, WAIT, #, entry_of, form_as, form_of}
use Rattle.isa.specs.Rom.{rom_at, operand_at}
use Rattle.isa.specs.Decode.{decode_of, with_form}

-- a byte at an offset, and 0 where the entry is shorter
abbrev kept : ℕ → Entry → ℕ → ℕ
kept offset e byte = cond (ltb offset (bytes_of e)) byte 0

same : (e : Entry) (k f s : ℕ) → form_as e k (kept 1 e f) (kept 2 e s) ≡ form_as e k f s
unfolding bytes_of form_as
same JRNZ k f s = refl
same JRNC k f s = refl
same JRZ k f s = refl
same JRC k f s = refl
same CALL k f s = refl
same JP k f s = refl
same JRR k f s = refl
same JRS k f s = refl
same RES k f s = refl
same SET k f s = refl
same (LD-A rr) k f s = refl
same (LD-A (short r)) k f s = refl
same (LD-A [X]) k f s = refl
same (LD-A [Y]) k f s = refl
same (LD-to rr) k f s = refl
same (LD-to (short r)) k f s = refl
same (LD-to [X]) k f s = refl
same (LD-to [Y]) k f s = refl
same (INC rr) k f s = refl
same (INC (short r)) k f s = refl
same (INC [X]) k f s = refl
same (INC [Y]) k f s = refl
same (DEC rr) k f s = refl
same (DEC (short r)) k f s = refl
same (DEC [X]) k f s = refl
same (DEC [Y]) k f s = refl
same (ADD rr) k f s = refl
same (ADD (short r)) k f s = refl
same (ADD [X]) k f s = refl
same (ADD [Y]) k f s = refl
same (SUB rr) k f s = refl
same (SUB (short r)) k f s = refl
same (SUB [X]) k f s = refl
same (SUB [Y]) k f s = refl
same (AND rr) k f s = refl
same (AND (short r)) k f s = refl
same (AND [X]) k f s = refl
same (AND [Y]) k f s = refl
same (CP rr) k f s = refl
same (CP (short r)) k f s = refl
same (CP [X]) k f s = refl
same (CP [Y]) k f s = refl
same LDI-A k f s = refl
same LDI-rr k f s = refl
same ADDI k f s = refl
same SUBI k f s = refl
same ANDI k f s = refl
same CPI k f s = refl
same COM k f s = refl
same RLC k f s = refl
same RET k f s = refl
same RETI k f s = refl
same STOP k f s = refl
same WAIT k f s = refl
same # k f s = refl

-- the three bytes from an address on are enough, whatever the length
chosen : (b : Bool) (byte : ℕ) → cond b (Some byte) (Some 0) ≡ Some (cond b byte 0)
chosen true byte = refl
chosen false byte = refl

pub read_three : (image : List ℕ) (a k f s : ℕ) → rom_at image a ≡ Some k → rom_at image (forward_of a 1) ≡ Some f →
    rom_at image (forward_of a 2) ≡ Some s → with_form a k (form_of k f s) ≡ decode_of image a
unfolding operand_at form_of
read_three image a k f s here first second =
    rw (
      here,
      first,
      chosen (ltb 1 (bytes_of (entry_of k))) f,
      second,
      chosen (ltb 2 (bytes_of (entry_of k))) s,
      same (entry_of k) k f s,
    )
