-- The check gives the first refusal that applies, and accepts where none does.
use Prim.Native.Nat.{ℕ, zero, suc, ◌+◌, ◌<◌}
use native.Mathlib.Nat.{add-zero}
use native.Mathlib.Omega.{arith}
use mathlib.Core.Path.{◌≡◌, refl, ap, sym, ◌∙◌}
use mathlib.Core.Logic.{◌⊎◌, inl, inr, ⊎_elim}
use mathlib.Core.Bool.{Bool, true, false, cond, ◌&&◌, ◌||◌, false≢true, true≢false, and-eq-true_iff}
use mathlib.Core.List.{List, [], ◌∷◌}
use lib.Dec.{leb, ltb, eqb}
use lib.ListN.{length, get_or}
use borrow.Author.Tests.{leb-true, leb-false, ltb-true, ltb-false, eqb-true, eqb-false}
use Rattle.isa.specs.Decode as decode
use Rattle.isa.specs.Rom.{is_image, spaces_in, space_of}
use Rattle.isa.specs.Decode.{Decoding, decode_at}
use Rattle.isa.specs.Displacement.{forward_of}
use Rattle.isa.specs.ControlFlow.{flow_of}
use Rattle.isa.specs.Refusals.{located, Answer, done, refused, unless}
use Rattle.isa.specs.Sources.{is_named, names_only_sources, vector_of, reset_vector}
use Rattle.isa.specs.declared.Flow.{Flow}
use Rattle.isa.specs.declared.Flow.TheVariants as flow
use Rattle.isa.specs.declared.Source.{Source}
use Rattle.isa.specs.declared.Source.TheVariants.{Nmi, First, Second, Third, Fourth}
use Rattle.certificate.specs.Successors.{Successor}
use Rattle.certificate.specs.Marks.{mark_at, Marked, kind_of, kind_at, need_at, lowest}
use Rattle.certificate.specs.Findings.{passes, fault}
use Rattle.certificate.specs.Successors.{placed, successors_of, every, has_kind, all_have_kind, covers, covers_all}
use Rattle.certificate.specs.Successors.{successors_found}
use Rattle.certificate.specs.Vectors.{vector_found, source_found, vectors_found}
use Rattle.certificate.specs.Levels.{levels_of}
use Rattle.certificate.specs.Check.{flow_found, decoded_found, pages_found, mark_found, marks_found, levels_found}
use Rattle.certificate.specs.Check.{marks_in, check_of}
use Rattle.certificate.specs.Refusals.{Some, Misplaced, WrongKind, TooSmall, malformed, outside_rom}
use Rattle.certificate.specs.Refusals.{undefined_opcode, misplaced_return, successor_kind, need_too_small}
use Rattle.certificate.specs.Refusals.{at_instruction, at_pages, at_mark, at_marks, start_up, at_source, at_vectors, image_length}
use Rattle.certificate.specs.Refusals.{certificate_length, unknown_source, too_many_levels, AnswersFirst}
use Rattle.certificate.proofs.Facts.{well_formed_lem, kind_of_lem, mark_is, at_most_4096}
use Rattle.isa.proofs.Halves.{is_space_lem}
use Rattle.isa.proofs.AtAddress.{AtAddress, at_address, defined}
use Rattle.certificate.proofs.Deciding.{Decides, nothing, skip, ask, decides_then, describes}

-- 15
placed_right : (kind : ℕ) (f : Flow) → placed kind f ≡ true → Misplaced kind f → ⊥
unfolding placed
placed_right kind flow.Next e m = m
placed_right kind (flow.Jump t) e m = m
placed_right kind (flow.Branch b t) e m = m
placed_right kind (flow.Call t) e m = m
placed_right kind flow.Return e m = m (eqb-true kind 4 e)
placed_right kind flow.ReturnFromInterrupt e m = go (eqb kind 1) refl e
  where
    go : (t : Bool) → eqb kind 1 ≡ t → (t || eqb kind 3) ≡ true → ⊥
    go true p e = m.0 (eqb-true kind 1 p)
    go false p e = m.1 (eqb-true kind 3 e)
placed_right kind flow.Sleep e m = m

placed_wrong : (kind : ℕ) (f : Flow) → placed kind f ≡ false → Misplaced kind f
unfolding placed
placed_wrong kind flow.Next e = absurd (true≢false e)
placed_wrong kind (flow.Jump t) e = absurd (true≢false e)
placed_wrong kind (flow.Branch b t) e = absurd (true≢false e)
placed_wrong kind (flow.Call t) e = absurd (true≢false e)
placed_wrong kind flow.Return e = eqb-false kind 4 e
placed_wrong kind flow.ReturnFromInterrupt e = go (eqb kind 1) refl e
  where
    go : (t : Bool) → eqb kind 1 ≡ t → (t || eqb kind 3) ≡ false → Misplaced kind flow.ReturnFromInterrupt
    go true p e = absurd (true≢false e)
    go false p e = (eqb-false kind 1 p, eqb-false kind 3 e)
placed_wrong kind flow.Sleep e = absurd (true≢false e)

one_false : (a b : Bool) → (a && b) ≡ false → (a ≡ false) ⊎ (b ≡ false)
one_false true b e = inr e
one_false false b e = inl refl

-- a test of each successor, and what it says of one
every_right : (test : Successor → Bool) (P : Successor → Type 0) → ((s : Successor) → test s ≡ true → P s → ⊥)
    → (successors : List Successor) → every test successors ≡ true → Some P successors → ⊥
every_right test P right [] e some = some
every_right test P right (s ∷ successors) e (inl p) =
    right s ((and-eq-true_iff (test s) (every test successors)).0 e).0 p
every_right test P right (s ∷ successors) e (inr some) =
    every_right test P right successors ((and-eq-true_iff (test s) (every test successors)).0 e).1 some

every_wrong : (test : Successor → Bool) (P : Successor → Type 0) → ((s : Successor) → test s ≡ false → P s)
    → (successors : List Successor) → every test successors ≡ false → Some P successors
every_wrong test P wrong [] e = true≢false e
every_wrong test P wrong (s ∷ successors) e =
    ⊎_elim (λ p. inl (wrong s p)) (λ p. inr (every_wrong test P wrong successors p))
    (one_false (test s) (every test successors) e)

module _ (certificate : List ℕ) where
  -- 16
  kinds_right : (successors : List Successor) → all_have_kind certificate successors ≡ true
      → Some (WrongKind certificate) successors → ⊥
  unfolding all_have_kind
  kinds_right = every_right (has_kind certificate) (WrongKind certificate) (λ s e w. w (eqb-true _ s.kind e))

  kinds_wrong : (successors : List Successor) → all_have_kind certificate successors ≡ false
      → Some (WrongKind certificate) successors
  unfolding all_have_kind
  kinds_wrong = every_wrong (has_kind certificate) (WrongKind certificate) (λ s e. eqb-false _ s.kind e)

  -- 17
  needs_right : (need : ℕ) (successors : List Successor) → covers_all certificate need successors ≡ true
      → Some (TooSmall certificate need) successors → ⊥
  unfolding covers_all
  needs_right need =
      every_right (covers certificate need) (TooSmall certificate need)
      (λ s e w. let h = leb-true (need_at certificate s.address + s.levels) need e in omega arith)

  needs_wrong : (need : ℕ) (successors : List Successor) → covers_all certificate need successors ≡ false
      → Some (TooSmall certificate need) successors
  unfolding covers_all
  needs_wrong need =
      every_wrong (covers certificate need) (TooSmall certificate need)
      (λ s e. leb-false (need_at certificate s.address + s.levels) need e)

  -- 4, 5, 15, 16, 17 at a marked address, by what decoding answers
  decoded_decides : (a : ℕ) (d : Answer Decoding) → AtAddress a d → Marked certificate a
      → Decides (at_instruction certificate d a) (decoded_found certificate a (mark_at certificate a) d)
  unfolding decoded_found flow_found successors_found kind_at need_at
  decoded_decides a (refused r) (inl e) n = record { decided = inl ((n, ap refused e), e) }
  decoded_decides a (refused r) (inr e) n =
      record {
        decided = inr ((λ p. let q = p.1 in let z : ◌≡◌ {A = ℕ} 0 1 = cc in omega arith), inl ((n, ap refused e), e));
      }
  decoded_decides a (done (decode.instruction i bytes cycles)) w n =
      let d = done (decode.instruction i bytes cycles) in
      let kind = kind_at certificate a in
      let need = need_at certificate a in
      let successors = successors_of (kind_at certificate a) (flow_of i a) (forward_of a bytes) in
      skip (outside_rom certificate d a) (λ p. defined p.1)
      (skip (undefined_opcode certificate d a) (λ p. defined p.1)
      (ask (misplaced_return certificate d a) (placed kind (flow_of i a)) _
      (λ t p. placed_right kind (flow_of i a) t p.1) (λ t. (n, placed_wrong kind (flow_of i a) t))
      (λ _. ask (successor_kind certificate d a) (all_have_kind certificate successors) _
      (λ t p. kinds_right successors t p.1) (λ t. (n, kinds_wrong successors t))
      (λ _. ask (need_too_small certificate d a) (covers_all certificate need successors) passes
      (λ t p. needs_right need successors t p.1) (λ t. (n, needs_wrong need successors t))
      (λ _. nothing)))))

  -- with the pages in turn
  pages_decide : (image : List ℕ) (a n : ℕ) → ((k : ℕ) → AtAddress a (decode_at (space_of image k) a))
      → Marked certificate a
      → Decides (at_pages certificate image n a) (pages_found image certificate a (mark_at certificate a) n)
  unfolding pages_found
  pages_decide image a zero w n = nothing
  pages_decide image a (suc pages) w n =
      decides_then _ _ (pages_decide image a pages w n) (decoded_decides a (decode_at (space_of image pages) a) (w pages) n)

  -- the questions of an unmarked address: none applies
  unmarked_page : (a : ℕ) (d : Answer Decoding) → mark_at certificate a ≡ 0
      → Decides (at_instruction certificate d a) passes
  unmarked_page a d e =
      record { decided = (λ p. p.0 e, (λ p. p.0 e, (λ p. p.0 e, (λ p. p.0 e, (λ p. p.0 e, tt))))) }

  unmarked_pages : (image : List ℕ) (a n : ℕ) → mark_at certificate a ≡ 0 → Decides (at_pages certificate image n a) passes
  unmarked_pages image a zero e = nothing
  unmarked_pages image a (suc n) e =
      decides_then passes passes (unmarked_pages image a n e) (unmarked_page a (decode_at (space_of image n) a) e)

  -- the mark at an address
  mark_decides : (image : List ℕ) (a mark : ℕ) → mark_at certificate a ≡ mark
      → ((k : ℕ) → AtAddress a (decode_at (space_of image k) a))
      → Decides (at_mark certificate image a) (mark_found image certificate (spaces_in (length image)) a mark)
  unfolding mark_found
  mark_decides image a zero e w =
      skip (malformed certificate a) (λ p. p.0 e) (unmarked_pages image a (spaces_in (length image)) e)
  mark_decides image a (suc m) e w =
      let n : Marked certificate a = λ z. omega arith in
      rw (← e)
      (ask (malformed certificate a) (ltb 0 (kind_of (mark_at certificate a)))
      (pages_found image certificate a (mark_at certificate a) (spaces_in (length image)))
      (λ t p. p.1 (well_formed_lem (mark_at certificate a) (ltb-true 0 (kind_of (mark_at certificate a)) t)))
      (λ t. (
        n,
        λ f. let h = ltb-false 0 (kind_of (mark_at certificate a)) t in
            let k = kind_of_lem (mark_at certificate a) f in
            let l = f.kind_least in
            omega arith,
      ))
      (λ _. pages_decide image a (spaces_in (length image)) w n))

  -- the marks of a part of the certificate
  marks_decide : (image : List ℕ) (a : ℕ) (marks : List ℕ)
      → ((i : ℕ) → i < length marks → mark_at certificate (a + i) ≡ get_or marks i 0)
      → ((i : ℕ) → i < length marks → (k : ℕ) → AtAddress (a + i) (decode_at (space_of image k) (a + i)))
      → Decides (at_marks certificate image (length marks) a)
      (marks_found image certificate (spaces_in (length image)) a marks)
  unfolding marks_found
  marks_decide image a [] same at_address = nothing
  marks_decide image a (m ∷ marks) same at_address =
      decides_then (mark_found image certificate (spaces_in (length image)) a m)
      (marks_found image certificate (spaces_in (length image)) (suc a) marks)
      (mark_decides image a m (rw add-zero at (same 0 (omega arith))) (rw add-zero at (at_address 0 (omega arith))))
      (marks_decide image (suc a) marks
      (λ i h. rw (← shift i) (same (suc i) (omega arith)))
      (λ i h. rw (← shift i) (at_address (suc i) (omega arith))))
    where
      shift : (i : ℕ) → a + suc i ≡ suc a + i
      shift i = omega arith

  -- 18
  start_up_decides : Decides (start_up certificate ∷ []) (vector_found certificate reset_vector 1)
  unfolding vector_found
  start_up_decides =
      ask (start_up certificate) (eqb (kind_at certificate reset_vector) 1) passes (λ t p. p (eqb-true _ 1 t))
      (λ t. eqb-false _ 1 t) (λ _. nothing)

  source_decides : (wired : ℕ) (s : Source)
      → Decides (at_source certificate wired s ∷ []) (source_found certificate wired s)
  unfolding source_found vector_found
  source_decides wired s = go (is_named wired s) refl
    where
      go : (w : Bool) → is_named wired s ≡ w
          → Decides (at_source certificate wired s ∷ [])
          (cond w (unless (eqb (kind_at certificate (vector_of s)) 3) (fault (located 18 (vector_of s))) passes) passes)
      go true w =
          ask (at_source certificate wired s) (eqb (kind_at certificate (vector_of s)) 3) passes
          (λ t p. p.1 (eqb-true _ 3 t)) (λ t. (w, eqb-false _ 3 t)) (λ _. nothing)
      go false w = skip (at_source certificate wired s) (λ p. false≢true (sym w ∙ p.0)) nothing

  vectors_decide : (wired : ℕ) → Decides (at_vectors certificate wired) (vectors_found certificate wired)
  unfolding vectors_found
  vectors_decide wired =
      decides_then _ _ start_up_decides
      (decides_then _ _ (source_decides wired Nmi)
      (decides_then _ _ (source_decides wired First)
      (decides_then _ _ (source_decides wired Second)
      (decides_then _ _ (source_decides wired Third) (source_decides wired Fourth)))))

  -- 19
  levels_decide : (wired : ℕ) → Decides (too_many_levels certificate wired ∷ []) (levels_found certificate wired)
  levels_decide wired =
      ask (too_many_levels certificate wired) (leb (levels_of certificate wired) 6) passes
      (λ t p. let h = leb-true (levels_of certificate wired) 6 t in omega arith)
      (λ t. leb-false (levels_of certificate wired) 6 t) (λ _. nothing)

  -- the marks of a certificate of the image's length
  all_marks_decide : (image : List ℕ) → is_image (length image) ≡ true → length certificate ≡ marks_in (length image)
      → Decides (at_marks certificate image (length certificate) (lowest certificate))
      (marks_found image certificate (spaces_in (length image)) (lowest certificate) certificate)
  all_marks_decide image e same =
      let fits = at_most_4096 (length image) in
      marks_decide image (lowest certificate) certificate
      (λ i h. mark_is certificate i (omega arith) h)
      (λ i h k. at_address (space_of image k) (lowest certificate + i) (is_space_lem image k e) (omega arith))

-- The check gives the first refusal that applies, and accepts where none does.
pub answers_first : AnswersFirst
unfolding check_of
answers_first image certificate wired =
    describes (levels_of certificate wired) _
    (ask (image_length image) (is_image (length image)) _
    (λ t p. true≢false (sym t ∙ p)) (λ t. t)
    (λ is-image. ask (certificate_length certificate image) (eqb (length certificate) (marks_in (length image))) _
    (λ t p. p (eqb-true _ _ t)) (λ t. eqb-false _ _ t)
    (λ same. ask (unknown_source wired) (names_only_sources wired) _ (λ t p. true≢false (sym t ∙ p)) (λ t. t)
    (λ _. decides_then _ _
    (decides_then _ _ (all_marks_decide certificate image is-image (eqb-true (length certificate) (marks_in (length image)) same))
    (vectors_decide certificate wired))
    (levels_decide certificate wired)))))
