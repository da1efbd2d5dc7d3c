-- A machine as a state of 280 bytes: 0-255 data; 256, 257 PC; 258 levels; 259 mode; 260 asleep; 261-266 Z and C of
-- normal, interrupt and NMI; 267 zero; 268-279 the return addresses. Numbers of two bytes stand low byte first.
use Rattle.std.specs.Prelude.{ℕ, ◌+◌, ◌*◌, ◌/◌, ◌%◌, Bool, cond, ◌&&◌, List, [], ◌∷◌, ◌++◌, length, get_or, take, eqb, leb, ltb}
use Rattle.alu.specs.declared.Flags.{Flags}
use Rattle.control.specs.declared.Mode.{Mode}
use Rattle.control.specs.declared.Mode.TheVariants.{Reset, Normal, Interrupt, NmiOverNormal, NmiOverInterrupt}
use Rattle.control.specs.declared.Control.{Control}
use Rattle.control.specs.Modes.{mode_number}
use Rattle.machine.specs.declared.FlagPairs.{FlagPairs}
use Rattle.machine.specs.declared.Machine.{Machine}
use Rattle.machine.specs.State.{machine_of}
use Rattle.exports.specs.Every.{every}

-- the byte at 260 + k, asleep or a flag, is 0 or 1
abbrev pub is_flag : List ℕ → (k : ℕ) → Bool
is_flag s k = ltb (get_or s (260 + k) 0) 2

-- whether bytes are the state of a machine: 280 of them, with a mode, seven flags and the zero
unfoldable pub is_valid : List ℕ → Bool
is_valid s = eqb (length s) 280 && (leb (get_or s 259 0) 4 && (eqb (get_or s 267 0) 0 && every (is_flag s) 7))

-- the number of two bytes
abbrev pub word_at : List ℕ → ℕ → ℕ
word_at s at = get_or s at 0 + get_or s (at + 1) 0 * 256

abbrev pub flag_at : List ℕ → ℕ → Bool
flag_at s at = eqb (get_or s at 0) 1

abbrev pub pair_at : List ℕ → ℕ → Flags
pair_at s at = record { zero = flag_at s at; carry = flag_at s (at + 1) }

-- 0 reset, 1 normal, 2 interrupt, 3 NMI over normal, 4 NMI over interrupt
unfoldable pub mode_of : ℕ → Mode
mode_of n =
    cond (eqb n 0) Reset
    (cond (eqb n 1) Normal
    (cond (eqb n 2) Interrupt
    (cond (eqb n 3) NmiOverNormal NmiOverInterrupt)))

unfoldable pub control_at : List ℕ → Control
control_at s = record { pc = word_at s 256; levels = get_or s 258 0; mode = mode_of (get_or s 259 0); asleep = flag_at s 260 }

unfoldable pub stack_at : List ℕ → List ℕ
stack_at s = word_at s 268 ∷ word_at s 270 ∷ word_at s 272 ∷ word_at s 274 ∷ word_at s 276 ∷ word_at s 278 ∷ []

unfoldable pub pairs_at : List ℕ → FlagPairs
pairs_at s = record { normal = pair_at s 261; interrupt = pair_at s 263; nmi = pair_at s 265 }

-- the machine of a state
unfoldable pub machine_at : List ℕ → Machine
machine_at s = machine_of (control_at s) (stack_at s) (pairs_at s) (take 256 s)

-- what bytes are as a state: that of a machine, or invalid
pub data Unpacked : Type 0 where
  valid : Machine → Unpacked
  invalid : Unpacked

unfoldable pub unpacked : List ℕ → Unpacked
unpacked s = cond (is_valid s) (valid (machine_at s)) invalid

abbrev pub flag_byte : Bool → ℕ
flag_byte is = cond is 1 0

abbrev pub low_byte : ℕ → ℕ
low_byte n = n % 256

abbrev pub high_byte : ℕ → ℕ
high_byte n = n / 256

unfoldable pub control_bytes : Control → FlagPairs → List ℕ
control_bytes c f =
    low_byte c.pc ∷ high_byte c.pc ∷ c.levels ∷ mode_number c.mode ∷ flag_byte c.asleep
    ∷ flag_byte f.normal.zero ∷ flag_byte f.normal.carry
    ∷ flag_byte f.interrupt.zero ∷ flag_byte f.interrupt.carry
    ∷ flag_byte f.nmi.zero ∷ flag_byte f.nmi.carry ∷ 0 ∷ []

unfoldable pub stack_bytes : List ℕ → List ℕ
stack_bytes stack =
    low_byte (get_or stack 0 0) ∷ high_byte (get_or stack 0 0)
    ∷ low_byte (get_or stack 1 0) ∷ high_byte (get_or stack 1 0)
    ∷ low_byte (get_or stack 2 0) ∷ high_byte (get_or stack 2 0)
    ∷ low_byte (get_or stack 3 0) ∷ high_byte (get_or stack 3 0)
    ∷ low_byte (get_or stack 4 0) ∷ high_byte (get_or stack 4 0)
    ∷ low_byte (get_or stack 5 0) ∷ high_byte (get_or stack 5 0) ∷ []

-- the state of a machine
unfoldable pub packed : Machine → List ℕ
packed m = m.bytes ++ control_bytes m.control m.flags ++ stack_bytes m.stack
