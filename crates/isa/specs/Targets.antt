-- Where an instruction that was decoded may jump to.
use Rattle.std.specs.Prelude.{ℕ, ◌<◌, ◌≡◌, List}
use Rattle.isa.specs.Refusals.{done}
use Rattle.isa.specs.Decode.{instruction, decode_in}
use Rattle.isa.specs.ControlFlow.{flow_of}
use Rattle.isa.specs.RoundTrip.{Bytes}
use Rattle.isa.specs.declared.Flow.{Flow}
use Rattle.isa.specs.declared.Flow.TheVariants as flow
use Rattle.isa.specs.declared.Instruction.{Instruction}

-- the target, where there is one, is a program address
abbrev pub InRange : Flow → Type 0
InRange flow.Next = Unit {0}
InRange (flow.Jump target) = target < 4096
InRange (flow.Branch condition target) = target < 4096
InRange (flow.Call target) = target < 4096
InRange flow.Return = Unit {0}
InRange flow.ReturnFromInterrupt = Unit {0}
InRange flow.Sleep = Unit {0}

-- "The program counter has 12 bits and all its arithmetic is modulo 4096"
-- proved by targets_in_range, proofs/Targets
abbrev pub TargetsInRange : Type 0
TargetsInRange =
    (image : List ℕ) → Bytes image → (bank a : ℕ) (i : Instruction) (n cycles : ℕ) →
    decode_in image bank a ≡ done (instruction i n cycles) → InRange (flow_of i a)
