-- The addresses that a program reaches, and the levels that its paths take (document 02, W-202).
use Rattle.std.specs.Prelude.{ℕ, ◌+◌, ◌≡◌, true, List}
use Rattle.isa.specs.Rom.{space_of}
use Rattle.isa.specs.Refusals.{done}
use Rattle.isa.specs.Decode as decode
use Rattle.isa.specs.Decode.{decode_at}
use Rattle.isa.specs.Displacement.{forward_of}
use Rattle.isa.specs.ControlFlow.{flow_of}
use Rattle.isa.specs.Sources.{is_named, vector_of, reset_vector}
use Rattle.isa.specs.declared.Condition.{Condition}
use Rattle.isa.specs.declared.Flow.{Flow}
use Rattle.isa.specs.declared.Flow.TheVariants as flow
use Rattle.isa.specs.declared.Instruction.{Instruction}
use Rattle.isa.specs.declared.Source.{Source}

-- where code of a kind goes on, in code of which kind, and the levels that going there takes: "A branch counts both
-- ways, and a CALL is taken to return."; kinds by document 01: "each address where the instruction may continue [..] has
-- the same kind. For CALL that is the address plus 2, and the target has kind 4.", "RETI in kind 1 has the next address,
-- of kind 2"; RET, and RETI of a service, go on nowhere
pub data Continues : (kind : ℕ) → Flow → (next : ℕ) → (address kind' levels : ℕ) → Type 0 where
  goes_next : {k n : ℕ} → Continues k flow.Next n n k 0
  wakes : {k n : ℕ} → Continues k flow.Sleep n n k 0
  jumps : {k t n : ℕ} → Continues k (flow.Jump t) n t k 0
  branches : {c : Condition} {k t n : ℕ} → Continues k (flow.Branch c t) n t k 0
  passes_by : {c : Condition} {k t n : ℕ} → Continues k (flow.Branch c t) n n k 0
  calls : {k t n : ℕ} → Continues k (flow.Call t) n t 4 1
  comes_back : {k t n : ℕ} → Continues k (flow.Call t) n n k 0
  ends_start_up : {n : ℕ} → Continues 1 flow.ReturnFromInterrupt n n 2 0

-- the instruction that stands at a, with some page in place, leads, in code of a kind, to b: reach is the union over
-- the pages (document 02, W-210)
pub record Leads (image : List ℕ) (a kind b kind' levels : ℕ) : Type 0 where
  pub bank : ℕ
  pub instruction : Instruction
  pub bytes : ℕ
  pub cycles : ℕ
  pub decodes : decode_at (space_of image bank) a ≡ done (decode.instruction instruction bytes cycles)
  pub goes_on : Continues kind (flow_of instruction a) (forward_of a bytes) b kind' levels

-- "addresses reachable from FFEh or a wired vector", each with the kind that the rules force on it: "FFEh has kind 1.
-- Each wired source's vector has kind 3."
pub data Reachable (image : List ℕ) (wired : ℕ) : (address kind : ℕ) → Type 0 where
  at_reset : Reachable image wired reset_vector 1
  at_vector : (s : Source) → is_named wired s ≡ true → Reachable image wired (vector_of s) 3
  onward :
      {a kind b kind' levels : ℕ} → Reachable image wired a kind → Leads image a kind b kind' levels
      → Reachable image wired b kind'

-- some path from an address, in code of a kind, takes so many further levels
pub data UsesLevels (image : List ℕ) : (address kind levels : ℕ) → Type 0 where
  here : {a kind : ℕ} → UsesLevels image a kind 0
  along :
      {a kind b kind' levels more : ℕ} → Leads image a kind b kind' levels → UsesLevels image b kind' more
      → UsesLevels image a kind (more + levels)
