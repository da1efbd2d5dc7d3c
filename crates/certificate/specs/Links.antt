-- An instruction's rule by its successors: the rule holds exactly when the instruction may stand where it stands and
-- every successor is as it must be.
use Rattle.std.specs.Prelude.{ℕ, ◌+◌, ◌≤◌, ◌≡◌, true, List, [], ◌∷◌}
use Rattle.isa.specs.declared.Flow.{Flow}
use Rattle.certificate.specs.Marks.{kind_at, need_at}
use Rattle.certificate.specs.Successors.{Successor, placed, successors_of}
use Rattle.certificate.specs.Rules.{FlowRule}

-- from an instruction at a to its successor s: "has the same kind", or "the target has kind 4"; "The need is at least
-- each successor's, and for CALL at least the target's plus 1."
pub record Link (certificate : List ℕ) (a : ℕ) (s : Successor) : Type 0 where
  pub kind : kind_at certificate s.address ≡ s.kind
  pub need : need_at certificate s.address + s.levels ≤ need_at certificate a

-- "each successor": something holds of all of them
abbrev pub Every : (Successor → Type 0) → List Successor → Type 0
Every P [] = Unit
Every P (s ∷ successors) = P s × Every P successors

-- an instruction with a flow may stand at a, and is linked to every successor
pub record Linked (certificate : List ℕ) (a : ℕ) (flow : Flow) (next : ℕ) : Type 0 where
  pub stands : placed (kind_at certificate a) flow ≡ true
  pub links : Every (Link certificate a) (successors_of (kind_at certificate a) flow next)

-- both ways, of one flow
pub record RuleByLinks (certificate : List ℕ) (a : ℕ) (flow : Flow) (next : ℕ) : Type 0 where
  pub linked : FlowRule certificate a flow next → Linked certificate a flow next
  pub rule : Linked certificate a flow next → FlowRule certificate a flow next

-- for every certificate, address, flow and next address
-- proved by flow_rule_exactly, proofs/Links
abbrev pub FlowRuleExactly : Type 0
FlowRuleExactly = (certificate : List ℕ) (a : ℕ) (flow : Flow) (next : ℕ) → RuleByLinks certificate a flow next
