-- Where an instruction may stand and where it leads (document 01, "The certificate"), as the check goes by it.
use Rattle.std.specs.Prelude.{ℕ, ◌+◌, Bool, true, cond, ◌&&◌, ◌||◌, List, [], ◌∷◌, leb, eqb, Some}
use Rattle.isa.specs.Refusals.{located, unless}
use Rattle.isa.specs.declared.Flow.{Flow}
use Rattle.isa.specs.declared.Flow.TheVariants as flow
use Rattle.certificate.specs.declared.marks.Kind.{Kind}
use Rattle.certificate.specs.declared.successors.Successor as program
use Rattle.certificate.specs.declared.successors.Successors.{Successors}
use Rattle.certificate.specs.declared.successors.Successors.TheVariants.{None, One, Two}
use Rattle.certificate.specs.Findings.{Found, passes, fault}
use Rattle.certificate.specs.Marks.{need_of, kind_number, kind_at, need_at}

-- a successor of an instruction or the target of a CALL: the kind that its mark must have, and the levels that going
-- there takes
pub record Successor : Type 0 where
  pub address : ℕ
  pub kind : ℕ
  pub levels : ℕ

-- "RET stands only in kind 4, RETI only in 1 and 3"
unfoldable pub placed : (kind : ℕ) → Flow → Bool
placed kind flow.Next = true
placed kind (flow.Jump target) = true
placed kind (flow.Branch condition target) = true
placed kind (flow.Call target) = true
placed kind flow.Return = eqb kind 4
placed kind flow.ReturnFromInterrupt = eqb kind 1 || eqb kind 3
placed kind flow.Sleep = true

-- "has the same kind", or in start-up code's RETI "of kind 2": a successor that must have a kind, and takes no level
abbrev pub continues_at : (address kind : ℕ) → Successor
continues_at a k = record { address = a; kind = k; levels = 0 }

-- "the target has kind 4", and takes a level: "for CALL at least the target's plus 1"
abbrev pub call_target : (address : ℕ) → Successor
call_target a = record { address = a; kind = 4; levels = 1 }

-- "each address where the instruction may continue, both ways of a condition, has the same kind. For CALL that is the
-- address plus 2, and the target has kind 4.", "these have no successor, but RETI in kind 1 has the next address, of
-- kind 2"
unfoldable pub successors_of : (kind : ℕ) → Flow → (next : ℕ) → List Successor
successors_of kind flow.Next next = continues_at next kind ∷ []
successors_of kind (flow.Jump target) next = continues_at target kind ∷ []
successors_of kind (flow.Branch condition target) next = continues_at target kind ∷ continues_at next kind ∷ []
successors_of kind (flow.Call target) next = call_target target ∷ continues_at next kind ∷ []
successors_of kind flow.Return next = []
successors_of kind flow.ReturnFromInterrupt next = cond (eqb kind 1) (continues_at next 2 ∷ []) []
successors_of kind flow.Sleep next = continues_at next kind ∷ []

-- the program's successor, its kind by the number that it stands for
abbrev pub successor_by : {K : Type 0} → (number : K → ℕ) → program.Successor K → Successor
successor_by number s = record { address = s.address; kind = number s.kind; levels = s.levels }

-- the program's successors as a list
abbrev pub listed_by : {K : Type 0} → (number : K → ℕ) → Successors K → List Successor
listed_by number None = []
listed_by number (One s) = successor_by number s ∷ []
listed_by number (Two s t) = successor_by number s ∷ successor_by number t ∷ []

-- .. where the kinds are the four
abbrev pub successor_of : program.Successor Kind → Successor
successor_of = successor_by (λ kind. kind_number (Some kind))

abbrev pub listed : Successors Kind → List Successor
listed = listed_by (λ kind. kind_number (Some kind))

-- "each successor": all of them pass a test
abbrev pub every : (Successor → Bool) → List Successor → Bool
every test [] = true
every test (s ∷ successors) = test s && every test successors

-- one has the kind that it must have
abbrev pub has_kind : List ℕ → Successor → Bool
has_kind certificate s = eqb (kind_at certificate s.address) s.kind

-- none of them is "16 successor or CALL target outside ROM, unmarked or of wrong kind"
unfoldable pub all_have_kind : List ℕ → List Successor → Bool
all_have_kind certificate successors = every (has_kind certificate) successors

-- a need is at least that of a mark, with the levels that going there takes
abbrev pub covers_mark : (need mark levels : ℕ) → Bool
covers_mark need mark levels = leb (need_of mark + levels) need

-- a need is at least that of one successor
abbrev pub covers : List ℕ → (need : ℕ) → Successor → Bool
covers certificate need s = leb (need_at certificate s.address + s.levels) need

-- "The need is at least each successor's, and for CALL at least the target's plus 1."
unfoldable pub covers_all : List ℕ → (need : ℕ) → List Successor → Bool
covers_all certificate need successors = every (covers certificate need) successors

-- "16 successor or CALL target outside ROM, unmarked or of wrong kind, malformed marks counting so; 17 need too small"
unfoldable pub successors_found : List ℕ → (a need : ℕ) → List Successor → Found
successors_found certificate a need successors =
    unless (all_have_kind certificate successors) (fault (located 16 a))
    (unless (covers_all certificate need successors) (fault (located 17 a)) passes)
