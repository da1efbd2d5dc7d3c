-- Which flag pair a step writes and reads (document 01, "Modes, stack, sleep" and "Mistakes the manual invites").
use Rattle.std.specs.Prelude.{ℕ, ◌≡◌, ◌⊎◌, ◌≢◌, true, false, List}
use Rattle.isa.specs.Sources.{names_only_sources}
use Rattle.isa.specs.declared.Instruction.TheVariants as I
use Rattle.control.specs.declared.Mode.{Mode}
use Rattle.control.specs.declared.Mode.TheVariants.{Reset, Normal, Interrupt, NmiOverNormal, NmiOverInterrupt}
use Rattle.control.specs.Modes.{mode_beneath}
use Rattle.machine.specs.declared.FlagPairs.{FlagPairs}
use Rattle.data.specs.Space.{program_of}
use Rattle.machine.specs.declared.Machine.{Machine}
use Rattle.machine.specs.Pairs.{pair_of}
use Rattle.machine.specs.State.{machine_of}
use Rattle.machine.specs.Advance.{Step, done_of}
use Rattle.machine.specs.Step.{step_of}
use Rattle.machine.specs.Refusals.{TakesNone, AtPc}

-- the three pairs, and which one a mode has in use
abbrev pub pair_number : Mode → ℕ
pair_number Normal = 1
pair_number Interrupt = 2
pair_number Reset = 3
pair_number NmiOverNormal = 3
pair_number NmiOverInterrupt = 3

-- a step changes only the flag pair of its own mode
-- proved by other_pairs_kept, proofs/PairUse
abbrev pub OtherPairsKept : Type 0
OtherPairsKept =
    (image : List ℕ) (m : Machine) (request : ℕ) (mode : Mode) → pair_number m.control.mode ≢ pair_number mode →
    pair_of (step_of image m request).machine.flags mode ≡ pair_of m.flags mode

-- the machine with other flags
abbrev pub with_flags : Machine → FlagPairs → Machine
with_flags m flags = machine_of m.control m.stack flags m.bytes

-- two steps that differ at most in the flag pairs of other modes
pub record Alike (mode : Mode) (s t : Step) : Type 0 where
  pub answer : s.answer ≡ t.answer
  pub control : s.machine.control ≡ t.machine.control
  pub stack : s.machine.stack ≡ t.machine.stack
  pub bytes : s.machine.bytes ≡ t.machine.bytes
  pub pair : pair_of s.machine.flags mode ≡ pair_of t.machine.flags mode

-- a step reads only the flag pair of its own mode: machines that differ in other pairs step alike
-- proved by own_pair_read, proofs/PairUse
abbrev pub OwnPairRead : Type 0
OwnPairRead =
    (image : List ℕ) (m : Machine) (request : ℕ) (flags : FlagPairs) →
    pair_of flags m.control.mode ≡ pair_of m.flags m.control.mode →
    Alike m.control.mode (step_of image m request) (step_of image (with_flags m flags) request)

-- not "Flags of the wrong pair after RETI": the flags in use after it are those that the mode returned to had before it
-- proved by flags_after_reti, proofs/PairUse
abbrev pub FlagsAfterReti : Type 0
FlagsAfterReti =
    (image : List ℕ) (m n : Machine) (request bytes cycles used : ℕ) → TakesNone m request →
    m.control.asleep ≡ false →
    AtPc (program_of image m.bytes) m I.Reti bytes cycles → step_of image m request ≡ done_of n used →
    pair_of n.flags n.control.mode ≡ pair_of m.flags (mode_beneath m.control.mode)

-- not "Treating a second NMI as nested": in both NMI modes a step with requests is the step without
-- proved by nmi_not_nested, proofs/PairUse
abbrev pub NmiNotNested : Type 0
NmiNotNested =
    (image : List ℕ) (m : Machine) (request : ℕ) →
    (m.control.mode ≡ NmiOverNormal) ⊎ (m.control.mode ≡ NmiOverInterrupt) → names_only_sources request ≡ true →
    step_of image m request ≡ step_of image m 0
