-- The check's refusals as questions, in document 01's order ("What each operation turns down", "Check").
use Rattle.std.specs.Prelude.{ℕ, zero, suc, ◌+◌, ◌<◌, ◌≡◌, ◌⊎◌, ◌≢◌, true, false, List, [], ◌∷◌, ◌++◌, length}
use Rattle.isa.specs.Decode as decode
use Rattle.isa.specs.Decode.{Decoding, decode_at}
use Rattle.isa.specs.Displacement.{forward_of}
use Rattle.isa.specs.ControlFlow.{flow_of}
use Rattle.isa.specs.Rom.{is_image, spaces_in, space_of}
use Rattle.isa.specs.Refusals.{Numbered, plain, located, Answer, done, refused}
use Rattle.isa.specs.Sources.{is_named, names_only_sources, vector_of, reset_vector}
use Rattle.isa.specs.declared.Flow.{Flow}
use Rattle.isa.specs.declared.Flow.TheVariants as flow
use Rattle.isa.specs.declared.Source.{Source}
use Rattle.isa.specs.declared.Source.TheVariants.{Nmi, First, Second, Third, Fourth}
use Rattle.certificate.specs.Marks.{mark_at, Marked, WellFormed, kind_at, need_at, lowest}
use Rattle.certificate.specs.Successors.{Successor, successors_of}
use Rattle.certificate.specs.Levels.{levels_of}
use Rattle.certificate.specs.Check.{Verdict, marks_in, check_of}

-- a refusal, and what makes it apply
pub record Question : Type 1 where
  pub refusal : Numbered
  pub Applies : Type 0

-- the question of a refusal
abbrev pub asks : Numbered → Type 0 → Question
asks r A = record { refusal = r; Applies = A }

-- "nothing .. applies"
abbrev pub None : List Question → Type 0
None [] = Unit
None (q ∷ qs) = (q.Applies → ⊥) × None qs

-- "The first that applies is given, and never where it doesn't apply.": r is that of the first question that applies
abbrev pub FirstApplies : List Question → Numbered → Type 0
FirstApplies [] r = ⊥
FirstApplies (q ∷ qs) r = (q.Applies × (r ≡ q.refusal)) ⊎ ((q.Applies → ⊥) × FirstApplies qs r)

-- "successor or CALL target": some of them
abbrev pub Some : (Successor → Type 0) → List Successor → Type 0
Some P [] = ⊥
Some P (s ∷ successors) = P s ⊎ Some P successors

-- "RET stands only in kind 4, RETI only in 1 and 3"
abbrev pub Misplaced : (kind : ℕ) → Flow → Type 0
Misplaced kind flow.Next = ⊥
Misplaced kind (flow.Jump target) = ⊥
Misplaced kind (flow.Branch condition target) = ⊥
Misplaced kind (flow.Call target) = ⊥
Misplaced kind flow.Return = kind ≢ 4
Misplaced kind flow.ReturnFromInterrupt = (kind ≢ 1) × (kind ≢ 3)
Misplaced kind flow.Sleep = ⊥

-- "a defined instruction wholly in ROM" stands at a, by what decoding answers, and P holds of its flow and its next
-- address
abbrev pub Decodes : Answer Decoding → (a : ℕ) → (Flow → ℕ → Type 0) → Type 0
Decodes (done (decode.instruction i bytes cycles)) a P = P (flow_of i a) (forward_of a bytes)
Decodes (refused r) a P = ⊥

module _ (certificate : List ℕ) where
  -- "outside ROM, unmarked or of wrong kind, malformed marks counting so"
  abbrev pub WrongKind : Successor → Type 0
  WrongKind s = kind_at certificate s.address ≢ s.kind

  -- "The need is at least each successor's, and for CALL at least the target's plus 1."
  abbrev pub TooSmall : (need : ℕ) → Successor → Type 0
  TooSmall need s = need < need_at certificate s.address + s.levels

  -- "14 malformed mark"
  abbrev pub malformed : (a : ℕ) → Question
  malformed a = asks (located 14 a) (Marked certificate a × (WellFormed (mark_at certificate a) → ⊥))

  -- "4, 5, 4", the order of which is decoding's own: it answers with one of them
  abbrev pub outside_rom : Answer Decoding → (a : ℕ) → Question
  outside_rom d a = asks (located 4 a) (Marked certificate a × (d ≡ refused (located 4 a)))

  -- "5 undefined opcode"
  abbrev pub undefined_opcode : Answer Decoding → (a : ℕ) → Question
  undefined_opcode d a = asks (located 5 a) (Marked certificate a × (d ≡ refused (located 5 a)))

  -- "15 misplaced RET or RETI"
  abbrev pub misplaced_return : Answer Decoding → (a : ℕ) → Question
  misplaced_return d a =
      asks (located 15 a) (Marked certificate a × Decodes d a (λ f next. Misplaced (kind_at certificate a) f))

  -- "16 successor or CALL target outside ROM, unmarked or of wrong kind"
  abbrev pub successor_kind : Answer Decoding → (a : ℕ) → Question
  successor_kind d a =
      asks (located 16 a)
      (Marked certificate a × Decodes d a (λ f next. Some WrongKind (successors_of (kind_at certificate a) f next)))

  -- "17 need too small"
  abbrev pub need_too_small : Answer Decoding → (a : ℕ) → Question
  need_too_small d a =
      asks (located 17 a)
      (Marked certificate a
      × Decodes d a (λ f next. Some (TooSmall (need_at certificate a)) (successors_of (kind_at certificate a) f next)))

  -- "4, 5, 4; 15 ..; 16 ..; 17 .."
  abbrev pub at_instruction : Answer Decoding → (a : ℕ) → List Question
  at_instruction d a =
      outside_rom d a ∷ undefined_opcode d a ∷ misplaced_return d a ∷ successor_kind d a ∷ need_too_small d a ∷ []

  -- "with page 0 in place, then all with the next, to the last" (W-210): with so many pages
  abbrev pub at_pages : (image : List ℕ) → (pages a : ℕ) → List Question
  at_pages image zero a = []
  at_pages image (suc n) a = at_pages image n a ++ at_instruction (decode_at (space_of image n) a) a

  -- "at each: 14 malformed mark; .."
  abbrev pub at_mark : (image : List ℕ) → (a : ℕ) → List Question
  at_mark image a = malformed a ∷ at_pages image (spaces_in (length image)) a

  -- "Then marked addresses upward": so many addresses, from a on
  abbrev pub at_marks : (image : List ℕ) → (count a : ℕ) → List Question
  at_marks image zero a = []
  at_marks image (suc n) a = at_mark image a ++ at_marks image n (suc a)

  -- "FFEh has kind 1."
  abbrev pub start_up : Question
  start_up = asks (located 18 reset_vector) (kind_at certificate reset_vector ≢ 1)

  -- "Each wired source's vector has kind 3."
  abbrev pub at_source : (wired : ℕ) → Source → Question
  at_source wired s = asks (located 18 (vector_of s)) ((is_named wired s ≡ true) × (kind_at certificate (vector_of s) ≢ 3))

  -- "Then 18 vector kind, FFEh first, then sources upward"
  abbrev pub at_vectors : (wired : ℕ) → List Question
  at_vectors wired =
      start_up ∷ at_source wired Nmi ∷ at_source wired First ∷ at_source wired Second ∷ at_source wired Third ∷
      at_source wired Fourth ∷ []

  -- "13 (certificate not the image's length)"
  abbrev pub certificate_length : (image : List ℕ) → Question
  certificate_length image = asks (plain 13) (length certificate ≢ marks_in (length image))

  -- "19 more than six levels"
  abbrev pub too_many_levels : (wired : ℕ) → Question
  too_many_levels wired = asks (plain 19) (6 < levels_of certificate wired)

-- "1 image length"
abbrev pub image_length : (image : List ℕ) → Question
image_length image = asks (plain 1) (is_image (length image) ≡ false)

-- "11 (wired byte)"
abbrev pub unknown_source : (wired : ℕ) → Question
unknown_source wired = asks (plain 11) (names_only_sources wired ≡ false)

-- "Check: 1, 13 .., 11 ... Then marked addresses upward .. Then 18 ..; 19 .."
abbrev pub questions : (image certificate : List ℕ) → (wired : ℕ) → List Question
questions image certificate wired =
    image_length image ∷ certificate_length certificate image ∷ unknown_source wired ∷
    ((at_marks certificate image (length certificate) (lowest certificate) ++ at_vectors certificate wired)
    ++ (too_many_levels certificate wired ∷ []))

-- "Accepted means that nothing under Check below applies; the number is Levels."; refused: the first that applies
abbrev pub Described : List Question → (levels : ℕ) → Verdict → Type 0
Described qs levels (done number) = None qs × (number ≡ levels)
Described qs levels (refused r) = FirstApplies qs r

-- every refusal that the check gives applies, and none before it in the order does; it accepts where none applies
-- proved by answers_first, proofs/Refusals
abbrev pub AnswersFirst : Type 0
AnswersFirst =
    (image certificate : List ℕ) (wired : ℕ)
    → Described (questions image certificate wired) (levels_of certificate wired) (check_of image certificate wired)
