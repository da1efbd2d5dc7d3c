-- The certificate's rules (document 01, "The certificate"), apart from how they are checked.
use Rattle.std.specs.Prelude.{ℕ, ◌+◌, ◌≤◌, ◌≡◌, ◌⊎◌, true, List, length}
use Rattle.isa.specs.Refusals.{done}
use Rattle.isa.specs.Rom.{is_image, space_of}
use Rattle.isa.specs.Decode as decode
use Rattle.isa.specs.Decode.{decode_at}
use Rattle.isa.specs.Displacement.{forward_of}
use Rattle.isa.specs.ControlFlow.{flow_of}
use Rattle.isa.specs.Sources.{is_named, names_only_sources, vector_of, reset_vector}
use Rattle.isa.specs.declared.Instruction.{Instruction}
use Rattle.isa.specs.declared.Flow.{Flow}
use Rattle.isa.specs.declared.Flow.TheVariants as flow
use Rattle.isa.specs.declared.Source.{Source}
use Rattle.certificate.specs.Marks.{mark_at, Marked, WellFormed, kind_at, need_at}
use Rattle.certificate.specs.Levels.{levels_of}
use Rattle.certificate.specs.Check.{marks_in}

-- an instruction at a may continue at b: "has the same kind", "The need is at least each successor's"
pub record Continues (certificate : List ℕ) (a b : ℕ) : Type 0 where
  pub kind : kind_at certificate b ≡ kind_at certificate a
  pub need : need_at certificate b ≤ need_at certificate a

-- CALL at a: "the target has kind 4", "for CALL at least the target's plus 1"; it continues at "the address plus 2"
pub record Calls (certificate : List ℕ) (a target next : ℕ) : Type 0 where
  pub target_kind : kind_at certificate target ≡ 4
  pub target_need : need_at certificate target + 1 ≤ need_at certificate a
  pub back : Continues certificate a next

-- "RETI in kind 1 has the next address, of kind 2", "The need is at least each successor's"
pub record EndsStartUp (certificate : List ℕ) (a next : ℕ) : Type 0 where
  pub kind : kind_at certificate a ≡ 1
  pub next_kind : kind_at certificate next ≡ 2
  pub next_need : need_at certificate next ≤ need_at certificate a

-- "RET stands only in kind 4, RETI only in 1 and 3; these have no successor, but RETI in kind 1 ..",
-- "All others: each address where the instruction may continue, both ways of a condition"
abbrev pub FlowRule : (certificate : List ℕ) → (a : ℕ) → Flow → (next : ℕ) → Type 0
FlowRule certificate a flow.Next next = Continues certificate a next
FlowRule certificate a (flow.Jump target) next = Continues certificate a target
FlowRule certificate a (flow.Branch condition target) next =
    Continues certificate a target × Continues certificate a next
FlowRule certificate a (flow.Call target) next = Calls certificate a target next
FlowRule certificate a flow.Return next = kind_at certificate a ≡ 4
FlowRule certificate a flow.ReturnFromInterrupt next = (kind_at certificate a ≡ 3) ⊎ EndsStartUp certificate a next
FlowRule certificate a flow.Sleep next = Continues certificate a next

-- "Every marked address carries a defined instruction wholly in ROM", and its rule holds
pub record Runs (image certificate : List ℕ) (a : ℕ) : Type 0 where
  pub instruction : Instruction
  pub bytes : ℕ
  pub cycles : ℕ
  pub decodes : decode_at image a ≡ done (decode.instruction instruction bytes cycles)
  pub rule : FlowRule certificate a (flow_of instruction a) (forward_of a bytes)

-- at a marked address: a kind from 1 to 4, a need from 0 to 6, and with any bank byte, so with each page in place, an
-- instruction that runs
pub record Lawful (image certificate : List ℕ) (a : ℕ) : Type 0 where
  pub mark : WellFormed (mark_at certificate a)
  pub runs : (bank : ℕ) → Runs (space_of image bank) certificate a

-- all of them, with a number of levels
pub record Rules (image certificate : List ℕ) (wired levels : ℕ) : Type 0 where
  -- "An image is 2048 bytes (800h to FFFh)", or has 2 to 10 halves of 2048 (W-210)
  pub image_length : is_image (length image) ≡ true
  -- "One mark for each ROM byte", and in paged images for each address
  pub certificate_length : length certificate ≡ marks_in (length image)
  -- "11 (wired byte)": bits 5, 6 and 7 are not set
  pub sources : names_only_sources wired ≡ true
  -- "Every marked address .."
  pub marked : (a : ℕ) → Marked certificate a → Lawful image certificate a
  -- "FFEh has kind 1."
  pub start_up : kind_at certificate reset_vector ≡ 1
  -- "Each wired source's vector has kind 3."
  pub vectors : (s : Source) → is_named wired s ≡ true → kind_at certificate (vector_of s) ≡ 3
  -- "Levels = .."
  pub counted : levels ≡ levels_of certificate wired
  -- "At most 6."
  pub at_most_six : levels ≤ 6
