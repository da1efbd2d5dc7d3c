-- Marks that are forced and accepted are the least certificate; where they meet all demands and are not accepted, there
-- is none.
use Prim.Native.Nat.{ℕ, ◌+◌, ◌-◌, ◌/◌, ◌%◌, ◌≤◌, max}
use native.Mathlib.Nat.{max-le, le-max_left, le-max_right, le_trans}
use native.Mathlib.Omega.{arith}
use mathlib.Core.Path.{◌≡◌, refl, sym, ◌∙◌}
use mathlib.Core.Bool.{Bool, true, false, cond, ◌&&◌}
use mathlib.Core.List.{List}
use lib.Dec.{leb, ltb, eqb}
use lib.ListN.{length, get_or}
use borrow.Author.Tests.{eqb-true, eqb-false}
use Rattle.isa.specs.Rom.{is_image}
use Rattle.certificate.specs.Check.{marks_in}
use Rattle.isa.specs.Refusals.{Numbered, refused}
use Rattle.isa.specs.Sources.{is_named, names_only_sources, vector_of, reset_vector}
use Rattle.isa.specs.declared.Source.{Source}
use Rattle.isa.specs.declared.Source.TheVariants.{Nmi, First, Second, Third, Fourth}
use Rattle.certificate.specs.Marks.{mark_at, Marked, kind_at, need_at}
use Rattle.certificate.specs.Levels.{levels_for, levels_of}
use Rattle.certificate.specs.Check.{accepted, check_of}
use Rattle.certificate.specs.Rules.{Rules}
use Rattle.certificate.proofs.Agreement.{agreement}
use Rattle.certificate.proofs.Facts.{kind_of_lem}
use Rattle.certificate.proofs.SourceLevels.{source_levels_lem}
use Rattle.maker.specs.Reach.{Reachable}
use Rattle.maker.specs.Least.{NoneAccepted, NoSmaller, Least}
use Rattle.maker.specs.Making.{Sound, Finished}
use Rattle.maker.proofs.Reached.{taken}

max_mono : {a b c d : ℕ} → a ≤ c → b ≤ d → max a b ≤ max c d
max_mono {a} {b} {c} {d} h k = max-le (le_trans h (le-max_left c d)) (le_trans k (le-max_right c d))

-- smaller needs, no more levels
module _ (certificate other : List ℕ) (wired : ℕ) (less : (a : ℕ) → need_at certificate a ≤ need_at other a) where
  for_source : (k : Source) → levels_for certificate wired k ≤ levels_for other wired k
  unfolding levels_for
  for_source k = go (is_named wired k)
    where
      go : (t : Bool) → cond t (1 + need_at certificate (vector_of k)) 0 ≤ cond t (1 + need_at other (vector_of k)) 0
      go true = omega (arith, less (vector_of k))
      go false = omega arith

  fewer_levels : levels_of certificate wired ≤ levels_of other wired
  unfolding levels_of
  fewer_levels =
      let sources =
      max_mono (for_source First) (max_mono (for_source Second) (max_mono (for_source Third) (for_source Fourth))) in
      rw (source_levels_lem certificate wired, source_levels_lem other wired)
      (omega (arith, sources, less reset_vector, for_source Nmi))

-- a forced need is the least
no_smaller : (image certificate : List ℕ) (wired : ℕ) → Sound image wired certificate →
    NoSmaller image wired certificate
unfolding need_at
no_smaller image certificate wired s other levels e a = go (eqb (mark_at certificate a) 0) refl
  where
    go : (t : Bool) → eqb (mark_at certificate a) 0 ≡ t → mark_at certificate a % 16 ≤ mark_at other a % 16
    go true p =
        let z = eqb-true (mark_at certificate a) 0 p in
        omega arith
    go false p =
        let f = s.forced a (eqb-false (mark_at certificate a) 0 p) in
        let rules = (agreement image other wired levels).sound e in
        taken rules a (mark_at certificate a / 16) (mark_at certificate a % 16) f.reached f.takes

module _ {image certificate : List ℕ} {wired : ℕ} (s : Sound image wired certificate) where
  pub only_reachable : (a : ℕ) → Marked certificate a → Reachable image wired a (kind_at certificate a)
  unfolding kind_at
  only_reachable a m =
      let f = s.forced a m in
      rw (kind_of_lem (mark_at certificate a) f.formed) f.reached

  -- forced marks that the check accepts
  pub accepted_least : {levels : ℕ} → accepted levels ≡ check_of image certificate wired →
      Least image wired certificate levels
  accepted_least e =
      record {
        is_accepted = sym e;
        only_reachable = only_reachable;
        no_smaller = no_smaller image certificate wired s;
      }

  -- forced marks that meet all demands, where the check refuses them: another certificate would have as many levels
  pub none_left : {r : Numbered} → Finished image wired certificate → names_only_sources wired ≡ true
      → refused r ≡ check_of image certificate wired → NoneAccepted image wired
  none_left {r} f n e other levels c =
      let fewer = fewer_levels certificate other wired (no_smaller image certificate wired s other levels c) in
      let rules = (agreement image other wired levels).sound c in
      let mine : Rules image certificate wired (levels_of certificate wired) =
      record {
        image_length = s.image_length;
        certificate_length = s.size;
        sources = n;
        marked = f.1;
        start_up = f.0.start_up;
        vectors = f.0.vectors;
        counted = refl;
        at_most_six = omega (arith, fewer, rules.counted, rules.at_most_six);
      } in
      contradicts (e ∙ (agreement image certificate wired (levels_of certificate wired)).complete mine)
    where
      contradicts : {n : ℕ} → refused r ≡ accepted n → ⊥
      contradicts z = let bad : ◌≡◌ {A = ℕ} 0 1 = cc in omega arith

-- no marks yet
unmarked : (certificate : List ℕ) (a : ℕ) → ((i : ℕ) → get_or certificate i 0 ≡ 0) → mark_at certificate a ≡ 0
unfolding mark_at
unmarked certificate a zeros = go (ltb a 4096 && leb 4096 (a + length certificate))
  where
    go : (t : Bool) → cond t (get_or certificate (a + length certificate - 4096) 0) 0 ≡ 0
    go true = zeros (a + length certificate - 4096)
    go false = refl

pub unmarked_sound : {image certificate : List ℕ} {wired : ℕ} → is_image (length image) ≡ true
    → length certificate ≡ marks_in (length image) → ((i : ℕ) → get_or certificate i 0 ≡ 0) → Sound image wired certificate
unmarked_sound {image} {certificate} l e zeros =
    record { image_length = l; size = e; forced = λ a m. absurd (m (unmarked certificate a zeros)) }
