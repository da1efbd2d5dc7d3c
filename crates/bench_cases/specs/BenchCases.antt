-- Document 01's bench cases P1 to P12 in one table: single steps of the machine, and answers of the check.
use Rattle.std.specs.Prelude.{ℕ, ◌≡◌, Bool, true, false, List, [], ◌∷◌, get_or, set, replicate}
use Rattle.isa.specs.Refusals.{done}
use Rattle.isa.specs.Cases.{placed}
use Rattle.control.specs.declared.Mode.TheVariants.{Normal}
use Rattle.control.specs.Stack.{in_use}
use Rattle.machine.specs.declared.Machine.{Machine}
use Rattle.machine.specs.Pairs.{pair_of}
use Rattle.machine.specs.State.{machine_of, cleared_flags}
use Rattle.machine.specs.Step.{Step, step_of}
use Rattle.certificate.specs.Cases.{P11, P12}

-- data bytes, all 0 but A and one cell
abbrev pub holding : (a cell value : ℕ) → List ℕ
holding a cell value = set (set (replicate 256 0) 0xFF a) cell value

-- a machine in normal mode at an address, awake, with an empty stack, these data bytes, Z and C
abbrev pub ready : (pc : ℕ) → (bytes : List ℕ) → (zero carry : Bool) → Machine
ready pc bytes zero carry =
    machine_of (record { pc = pc; levels = 0; mode = Normal; asleep = false }) (replicate 6 0)
    (record { normal = record { zero = zero; carry = carry }; interrupt = cleared_flags; nmi = cleared_flags }) bytes

-- one step, without a request, of a program that has the bytes at an address. Where the instruction sets a flag, the
-- cases start from
-- the other value than they expect
abbrev pub stepped : (at : ℕ) → (code : List ℕ) → (bytes : List ℕ) → (zero carry : Bool) → Step
stepped at code bytes zero carry = step_of (placed at code) (ready at bytes zero carry) 0

-- a data byte, Z and C after it, and its cycles
pub record Leaves (s : Step) (cell value : ℕ) (zero carry : Bool) (cycles : ℕ) : Type 0 where
  pub byte : get_or s.machine.bytes cell 0 ≡ value
  pub flags : pair_of s.machine.flags Normal ≡ record { zero = zero; carry = carry }
  pub answer : s.answer ≡ done cycles

-- where it goes, with these return addresses on the stack, and its cycles: a step that is refused goes nowhere
pub record Reaches (s : Step) (pc : ℕ) (addresses : List ℕ) (cycles : ℕ) : Type 0 where
  pub there : s.machine.control.pc ≡ pc
  pub stack : in_use s.machine.control.levels s.machine.stack ≡ addresses
  pub answer : s.answer ≡ done cycles

-- "P4 CP of 10h with 11h: C 1; with 10h: C 0."
pub record P4 : Type 0 where
  pub below : Leaves (stepped 0x100 (0x3F ∷ 0x22 ∷ []) (holding 0x10 0x22 0x11) true false) 0xFF 0x10 false true 4
  pub equal : Leaves (stepped 0x100 (0x3F ∷ 0x22 ∷ []) (holding 0x10 0x22 0x10) false true) 0xFF 0x10 true false 4

-- "P7 7Eh jumps +16, 86h −15, FEh to itself." (JRC, taken)
pub record P7 : Type 0 where
  pub forward : Reaches (stepped 0x100 (0x7E ∷ []) (holding 0 0 0) false true) 0x110 [] 2
  pub back : Reaches (stepped 0x100 (0x86 ∷ []) (holding 0 0 0) false true) 0x0F1 [] 2
  pub itself : Reaches (stepped 0x100 (0xFE ∷ []) (holding 0 0 0) false true) 0x100 [] 2

-- "P10 C1 8D calls 8DCh; D9 5C jumps to 5CDh."
pub record P10 : Type 0 where
  pub calls : Reaches (stepped 0x100 (0xC1 ∷ 0x8D ∷ []) (holding 0 0 0) false false) 0x8DC (0x102 ∷ []) 4
  pub jumps : Reaches (stepped 0x100 (0xD9 ∷ 0x5C ∷ []) (holding 0 0 0) false false) 0x5CD [] 4

-- "P1 to P12 are proved over the definitions, gathered in one table by one proof"
-- proved by bench_cases, proofs/BenchCases
pub record BenchCases : Type 0 where
  -- "P1 ADD A,22h: A 20h, cell 33h gives 53h, Z 0, C 0."
  pub p1 : Leaves (stepped 0x100 (0x5F ∷ 0x22 ∷ []) (holding 0x20 0x22 0x33) true true) 0xFF 0x53 false false 4
  -- "P2 COM of B9h: 46h, C 1."
  pub p2 : Leaves (stepped 0x100 (0x2D ∷ []) (holding 0xB9 0 0) true false) 0xFF 0x46 false true 4
  -- "P3 DF FF: A 0, Z 1, C 0."
  pub p3 : Leaves (stepped 0x100 (0xDF ∷ 0xFF ∷ []) (holding 0x4D 0 0) false true) 0xFF 0x00 true false 4
  pub p4 : P4
  -- "P5 RLC of 81h, C 1: 03h, C 1."
  pub p5 : Leaves (stepped 0x100 (0xAD ∷ []) (holding 0x81 0 0) true true) 0xFF 0x03 false true 4
  -- "P6 2B 23 with cell FFh: EFh." (RES sets no flag)
  pub p6 : Leaves (stepped 0x100 (0x2B ∷ 0x23 ∷ []) (holding 0 0x23 0xFF) true true) 0x23 0xEF true true 4
  pub p7 : P7
  -- "P8 23 70 EA at 110 reaches 90 where the bit is 0." (70h lies in the ROM window, which shows 00h here)
  pub p8 : Reaches (stepped 110 (0x23 ∷ 0x70 ∷ 0xEA ∷ []) (holding 0 0 0) false false) 90 [] 5
  -- "P9 F3 AF 17 at 123 reaches 148 where the bit is 1."
  pub p9 : Reaches (stepped 123 (0xF3 ∷ 0xAF ∷ 0x17 ∷ []) (holding 0 0xAF 0x80) false false) 148 [] 5
  pub p10 : P10
  -- "in P11 and P12 the check's answer"
  pub p11 : P11
  pub p12 : P12
