-- Where the rules hold, the check accepts.
use Prim.Native.Nat.{ℕ, zero, suc, ◌+◌, ◌≤◌, ◌<◌}
use native.Mathlib.Omega.{arith}
use mathlib.Core.Path.{◌≡◌, refl, ap, sym}
use mathlib.Core.Bool.{Bool, true, false, cond}
use mathlib.Core.List.{List}
use lib.ListN.{length, get_or}
use borrow.Author.Tests.{le-leb, lt-ltb, eq-eqb}
use Rattle.isa.specs.Rom.{spaces_in, space_of}
use Rattle.isa.specs.Decode.{decode_at}
use Rattle.isa.specs.Sources.{is_named, vector_of, reset_vector}
use Rattle.isa.specs.Displacement.{forward_of}
use Rattle.isa.specs.ControlFlow.{flow_of}
use Rattle.isa.specs.declared.Source.{Source}
use Rattle.isa.specs.declared.Source.TheVariants.{Nmi, First, Second, Third, Fourth}
use Rattle.certificate.specs.Marks.{mark_at, Marked, WellFormed, kind_of, kind_at, need_at, lowest}
use Rattle.certificate.specs.Findings.{passes}
use Rattle.certificate.specs.Vectors.{vector_found, source_found, vectors_found}
use Rattle.certificate.specs.Levels.{levels_of}
use Rattle.certificate.specs.Check.{accepted, flow_found, decoded_found, mark_found, marks_found, check_of}
use Rattle.certificate.specs.Rules.{Rules}
use Rattle.certificate.proofs.Facts.{marked, kind_of_lem, mark_is, at_most_4096}
use Rattle.certificate.proofs.Pages.{pages_pass, all_pass}
use Rattle.certificate.proofs.Links.{links_pass, flow_rule_exactly}

has_kind_lem : {mark : ℕ} → WellFormed mark → 0 < kind_of mark
has_kind_lem {mark} w = rw (kind_of_lem mark w) w.kind_least

module _ (image certificate : List ℕ) (wired levels : ℕ) (rules : Rules image certificate wired levels) where
  abbrev pages : ℕ
  pages = spaces_in (length image)

  page_passes : (a : ℕ) → Marked certificate a → (page : ℕ)
      → decoded_found certificate a (mark_at certificate a) (decode_at (space_of image page) a) ≡ passes
  unfolding decoded_found flow_found kind_at need_at
  page_passes a n page =
      let r = (rules.marked a n).runs page in
      let linked =
      (flow_rule_exactly certificate a (flow_of r.instruction a) (forward_of a r.bytes)).linked r.rule in
      rw (r.decodes, linked.stands, links_pass certificate a _ linked.links)

  marked_passes : (a : ℕ) → Marked certificate a → mark_found image certificate pages a (mark_at certificate a) ≡ passes
  marked_passes a n =
      rw (
        marked image certificate pages a (mark_at certificate a) n,
        lt-ltb 0 (kind_of (mark_at certificate a)) (has_kind_lem (rules.marked a n).mark),
      )
      (pages_pass image certificate a (mark_at certificate a) pages (λ page h. page_passes a n page))

  mark_passes : (a mark : ℕ) → mark_at certificate a ≡ mark → mark_found image certificate pages a mark ≡ passes
  unfolding mark_found
  mark_passes a zero e = refl
  mark_passes a (suc m) e =
      let n : Marked certificate a = λ z. omega arith in
      rw e at (marked_passes a n)

  vector_passes : (vector kind : ℕ) → kind_at certificate vector ≡ kind → vector_found certificate vector kind ≡ passes
  unfolding vector_found
  vector_passes vector kind e = rw (eq-eqb (kind_at certificate vector) kind e)

  source_passes : (s : Source) → source_found certificate wired s ≡ passes
  unfolding source_found
  source_passes s = go (is_named wired s) refl
    where
      go : (w : Bool) → is_named wired s ≡ w → cond w (vector_found certificate (vector_of s) 3) passes ≡ passes
      go true e = vector_passes (vector_of s) 3 (rules.vectors s e)
      go false e = refl

  vectors_pass : vectors_found certificate wired ≡ passes
  unfolding vectors_found
  vectors_pass =
      rw (
        vector_passes reset_vector 1 rules.start_up,
        source_passes Nmi,
        source_passes First,
        source_passes Second,
        source_passes Third,
        source_passes Fourth,
      )

  marks_pass : marks_found image certificate pages (lowest certificate) certificate ≡ passes
  marks_pass =
      let same = rules.certificate_length in
      let fits : length certificate ≤ 4096 = omega (arith, at_most_4096 (length image)) in
      all_pass image certificate pages (lowest certificate) certificate
      (λ i h. mark_passes (lowest certificate + i) (get_or certificate i 0) (mark_is certificate i fits h))

  -- Where the rules hold, the check accepts.
  pub check_complete : check_of image certificate wired ≡ accepted levels
  unfolding check_of
  check_complete =
      let counted = rules.counted in
      let six : levels_of certificate wired ≤ 6 = omega (arith, rules.at_most_six) in
      rw (
        rules.image_length,
        eq-eqb _ _ rules.certificate_length,
        rules.sources,
        marks_pass,
        vectors_pass,
        le-leb _ _ six,
      )
      (ap accepted (sym counted))
