-- Where the check accepts, the rules hold.
use Prim.Native.Nat.{ℕ, zero, suc, ◌+◌, ◌-◌, ◌≤◌, ◌<◌}
use native.Mathlib.Nat.{add-zero}
use native.Mathlib.Omega.{arith}
use mathlib.Core.Path.{◌≡◌, refl, sym, ◌∙◌}
use mathlib.Core.Logic.{◌≢◌}
use mathlib.Core.Bool.{Bool, true, false, cond, ◌&&◌}
use mathlib.Core.List.{List, [], ◌∷◌}
use lib.Dec.{leb, ltb, eqb}
use lib.ListN.{length, get_or}
use borrow.Author.Tests.{leb-true, ltb-true, eqb-true}
use Rattle.isa.specs.Decode as decode
use Rattle.isa.specs.Rom.{is_image, spaces_in, space_of}
use Rattle.isa.specs.Decode.{Decoding, decode_at}
use Rattle.isa.specs.Refusals.{plain, located, Answer, done, refused}
use Rattle.isa.specs.Sources.{is_named, names_only_sources, vector_of, reset_vector}
use Rattle.isa.specs.Displacement.{forward_of}
use Rattle.isa.specs.ControlFlow.{flow_of}
use Rattle.isa.specs.declared.Flow.{Flow}
use Rattle.isa.specs.declared.Source.{Source}
use Rattle.isa.specs.declared.Source.TheVariants.{Nmi, First, Second, Third, Fourth}
use Rattle.certificate.specs.Marks.{mark_at, Marked, kind_of, kind_at, need_at, lowest}
use Rattle.certificate.specs.Findings.{Found, passes, fault, and_then}
use Rattle.certificate.specs.Successors.{placed}
use Rattle.certificate.specs.Vectors.{vector_found, source_found, vectors_found}
use Rattle.certificate.specs.Levels.{levels_of}
use Rattle.certificate.specs.Check.{accepted, flow_found, decoded_found, mark_found, marks_found, rules_found, verdict}
use Rattle.certificate.specs.Check.{marks_in, check_of}
use Rattle.certificate.proofs.Facts.{marked, not_both, both_pass, unless_passes, well_formed_lem, at_most_4096}
use Rattle.certificate.proofs.Pages.{each_page}
use Rattle.isa.proofs.Halves.{with_any_bank}
use Rattle.certificate.proofs.Links.{pass_links, flow_rule_exactly}
use Rattle.certificate.specs.Rules.{FlowRule, Runs, Lawful, Rules}

-- each mark of a part that passes
each_passes : (image certificate : List ℕ) (pages a : ℕ) (marks : List ℕ)
    → marks_found image certificate pages a marks ≡ passes
    → (i : ℕ) → i < length marks → mark_found image certificate pages (a + i) (get_or marks i 0) ≡ passes
unfolding marks_found
each_passes image certificate pages a [] e i h = absurd (omega arith)
each_passes image certificate pages a (m ∷ marks) e zero h =
    rw add-zero (both_pass (mark_found image certificate pages a m) (marks_found image certificate pages (suc a) marks) e).0
each_passes image certificate pages a (m ∷ marks) e (suc i) h =
    let shift : a + suc i ≡ suc a + i = omega arith in
    let p = both_pass (mark_found image certificate pages a m) (marks_found image certificate pages (suc a) marks) e in
    rw shift (each_passes image certificate pages (suc a) marks p.1 i (omega arith))

-- a marked address lies in ROM, and its mark is the certificate's there
pub record InRom (certificate : List ℕ) (a : ℕ) : Type 0 where
  pub most : a < 4096
  pub least : 4096 ≤ a + length certificate
  pub mark : mark_at certificate a ≡ get_or certificate (a + length certificate - 4096) 0

pub marked_in_rom : (certificate : List ℕ) (a : ℕ) → Marked certificate a → InRom certificate a
unfolding mark_at
marked_in_rom certificate a n = go (ltb a 4096) (leb 4096 (a + length certificate)) refl refl n
  where
    go : (s t : Bool) → ltb a 4096 ≡ s → leb 4096 (a + length certificate) ≡ t
        → cond (s && t) (get_or certificate (a + length certificate - 4096) 0) 0 ≢ 0 → InRom certificate a
    go true true p q n = record { most = ltb-true _ _ p; least = leb-true _ _ q; mark = rw (p, q) }
    go true false p q n = absurd (n refl)
    go false t p q n = absurd (n refl)

mark_passes : (image certificate : List ℕ) (pages : ℕ) → length certificate ≤ 4096
    → marks_found image certificate pages (lowest certificate) certificate ≡ passes
    → (a : ℕ) → Marked certificate a → mark_found image certificate pages a (mark_at certificate a) ≡ passes
mark_passes image certificate pages l e a n =
    let r = marked_in_rom certificate a n in
    let most = r.most in
    let least = r.least in
    let back : lowest certificate + (a + length certificate - 4096) ≡ a = omega arith in
    let p =
    each_passes image certificate pages (lowest certificate) certificate e
    (a + length certificate - 4096) (omega arith) in
    rw r.mark (rw back at p)

-- the tests 15, 16 and 17 make the rule
flow_rule : (certificate : List ℕ) (a : ℕ) (f : Flow) (n : ℕ)
    → flow_found certificate a (mark_at certificate a) f n ≡ passes → FlowRule certificate a f n
unfolding flow_found kind_at need_at
flow_rule certificate a f n e =
    let p = unless_passes (placed (kind_at certificate a) f) (located 15 a) _ e in
    (flow_rule_exactly certificate a f n).rule (record { stands = p.0; links = pass_links certificate a _ p.1 })

-- what a page says of a marked address that passes
runs_with : (program certificate : List ℕ) (a : ℕ)
    → decoded_found certificate a (mark_at certificate a) (decode_at program a) ≡ passes → Runs program certificate a
unfolding decoded_found
runs_with program certificate a = go (decode_at program a) refl
  where
    go : (d : Answer Decoding) → decode_at program a ≡ d → decoded_found certificate a (mark_at certificate a) d ≡ passes
        → Runs program certificate a
    go (done (decode.instruction i bytes cycles)) d e =
        let rule = flow_rule certificate a (flow_of i a) (forward_of a bytes) e in
        record { instruction = i; bytes = bytes; cycles = cycles; decodes = d; rule = rule }
    go (refused r) d e = absurd (not_both e)

-- a marked address that passes with each page
pub lawful : (image certificate : List ℕ) (a : ℕ) → is_image (length image) ≡ true → Marked certificate a
    → mark_found image certificate (spaces_in (length image)) a (mark_at certificate a) ≡ passes
    → Lawful image certificate a
lawful image certificate a is n e =
    let pages : ℕ = spaces_in (length image) in
    let mark : ℕ = mark_at certificate a in
    let s = unless_passes (ltb 0 (kind_of mark)) (located 14 a) _ (sym (marked image certificate pages a mark n) ∙ e) in
    record {
      mark = well_formed_lem mark (ltb-true 0 (kind_of mark) s.0);
      runs = with_any_bank image (λ program. Runs program certificate a)
          (λ k h. runs_with (space_of image k) certificate a (each_page image certificate a mark pages s.1 k h));
    }

-- the vectors
vector_kind : (certificate : List ℕ) (vector kind : ℕ) → vector_found certificate vector kind ≡ passes
    → kind_at certificate vector ≡ kind
unfolding vector_found
vector_kind certificate vector kind e =
    eqb-true _ kind (unless_passes (eqb (kind_at certificate vector) kind) (located 18 vector) passes e).0

source_kind : (certificate : List ℕ) (wired : ℕ) (s : Source) → source_found certificate wired s ≡ passes
    → is_named wired s ≡ true
    → kind_at certificate (vector_of s) ≡ 3
unfolding source_found
source_kind certificate wired s e w = vector_kind certificate (vector_of s) 3 (rw w at e)

-- what holds of each source
by_source : (P : Source → Type 0) → P Nmi → P First → P Second → P Third → P Fourth → (s : Source) → P s
by_source P n a b c d Nmi = n
by_source P n a b c d First = a
by_source P n a b c d Second = b
by_source P n a b c d Third = c
by_source P n a b c d Fourth = d

vectors_pass : (certificate : List ℕ) (wired : ℕ) → vectors_found certificate wired ≡ passes
    → (vector_found certificate reset_vector 1 ≡ passes) × ((s : Source) → source_found certificate wired s ≡ passes)
unfolding vectors_found
vectors_pass certificate wired e =
    let r = both_pass (vector_found certificate reset_vector 1) _ e in
    let n = both_pass (source_found certificate wired Nmi) _ r.1 in
    let a = both_pass (source_found certificate wired First) _ n.1 in
    let b = both_pass (source_found certificate wired Second) _ a.1 in
    let c = both_pass (source_found certificate wired Third) _ b.1 in
    (r.0, by_source (λ s. source_found certificate wired s ≡ passes) n.0 a.0 b.0 c.0 c.1)

-- `accepted` is the answer of what passes
verdict_accepted : (f : Found) (levels n : ℕ) → verdict levels f ≡ accepted n → (f ≡ passes) × (n ≡ levels)
verdict_accepted passes levels n e = (refl, cc)
verdict_accepted (fault r) levels n e = absurd (let z : ◌≡◌ {A = ℕ} 0 1 = cc in omega arith)

-- Where the check accepts, the rules hold.
pub check_sound : (image certificate : List ℕ) (wired levels : ℕ) → check_of image certificate wired ≡ accepted levels
    → Rules image certificate wired levels
unfolding check_of
check_sound image certificate wired levels e =
    let v = verdict_accepted _ (levels_of certificate wired) levels e in
    let c₁ = unless_passes (is_image (length image)) (plain 1) _ v.0 in
    let c₂ = unless_passes (eqb (length certificate) (marks_in (length image))) (plain 13) _ c₁.1 in
    let c₃ = unless_passes (names_only_sources wired) (plain 11) (rules_found image certificate wired) c₂.1 in
    let marks = marks_found image certificate (spaces_in (length image)) (lowest certificate) certificate in
    let all = both_pass (and_then marks (vectors_found certificate wired)) _ c₃.1 in
    let found = both_pass marks (vectors_found certificate wired) all.0 in
    let six =
    leb-true (levels_of certificate wired) 6
    (unless_passes (leb (levels_of certificate wired) 6) (plain 19) passes all.1).0 in
    let same = eqb-true (length certificate) (marks_in (length image)) c₂.0 in
    let fits : length certificate ≤ 4096 = omega (arith, at_most_4096 (length image)) in
    let vectors = vectors_pass certificate wired found.1 in
    record {
      image_length = c₁.0;
      certificate_length = same;
      sources = c₃.0;
      marked = λ a n. lawful image certificate a c₁.0 n
          (mark_passes image certificate (spaces_in (length image)) fits found.0 a n);
      start_up = vector_kind certificate reset_vector 1 vectors.0;
      vectors = λ s w. source_kind certificate wired s (vectors.1 s) w;
      counted = v.1;
      at_most_six = omega (arith, v.1);
    }
