-- With one page, or none, the maker answers what it answered.
use Prim.Native.Nat.{ℕ}
use mathlib.Core.Path.{◌≡◌, refl, sym, ◌∙◌}
use mathlib.Core.Logic.{◌≢◌, ◌↔◌, inl, inr, ⊎_elim}
use mathlib.Core.Bool.{true, false, true≢false}
use mathlib.Core.List.{List, [], ◌∷◌}
use lib.ListN.{length}
use Rattle.isa.specs.Rom.{is_space, is_image}
use Rattle.isa.specs.Refusals.{Numbered, done, refused}
use Rattle.isa.proofs.Halves.{space_length, space_image, space_is_image}
use Rattle.certificate.specs.Check.{marks_in}
use Rattle.certificate.specs.Refusals.{Question, FirstApplies, None}
use Rattle.certificate.proofs.OnePage.{a_mark_each, check_as_before}
use Rattle.maker.specs.Reach.{Leads, Reachable}
use Rattle.maker.specs.Reach as reach
use Rattle.maker.specs.Least.{NoneAccepted, Least}
use Rattle.maker.specs.Make.{questions}
use Rattle.maker.specs.OnePage.{LeadsUnpaged, ReachableUnpaged, at_reset, at_vector, onward}
use Rattle.maker.specs.OnePage.{NoneUnpaged, LeastUnpaged, questions_unpaged, MakerAsBefore}

-- two lists of questions that ask the same
abbrev Same : List Question → List Question → Type 0
Same [] [] = Unit
Same [] (q ∷ qs) = ⊥
Same (p ∷ ps) [] = ⊥
Same (p ∷ ps) (q ∷ qs) = (p.refusal ≡ q.refusal) × (p.Applies ↔ q.Applies) × Same ps qs

none_same : (ps qs : List Question) → Same ps qs → None ps → None qs
none_same [] [] s n = tt
none_same [] (q ∷ qs) s n = absurd s
none_same (p ∷ ps) [] s n = absurd s
none_same (p ∷ ps) (q ∷ qs) s n = (λ a. n.0 (s.1.1 a), none_same ps qs s.2 n.1)

first_same : (ps qs : List Question) (r : Numbered) → Same ps qs → FirstApplies ps r → FirstApplies qs r
first_same [] [] r s f = f
first_same [] (q ∷ qs) r s f = absurd s
first_same (p ∷ ps) [] r s f = absurd s
first_same (p ∷ ps) (q ∷ qs) r s f =
    ⊎_elim (λ (h : p.Applies × (r ≡ p.refusal)). inl (s.1.0 h.0, h.1 ∙ s.0))
    (λ (h : (p.Applies → ⊥) × FirstApplies ps r).
    inr (λ a. h.0 (s.1.1 a), first_same ps qs r s.2 h.1)) f

same_back : (ps qs : List Question) → Same ps qs → Same qs ps
same_back [] [] s = tt
same_back [] (q ∷ qs) s = absurd s
same_back (p ∷ ps) [] s = absurd s
same_back (p ∷ ps) (q ∷ qs) s = (sym s.0, (s.1.1, s.1.0), same_back ps qs s.2)

module _ (image : List ℕ) (is : is_space (length image) ≡ true) (wired : ℕ) where
  leads_then : {a k b k' l : ℕ} → Leads image a k b k' l → LeadsUnpaged image a k b k' l
  leads_then w = record {
    instruction = w.instruction;
    bytes = w.bytes;
    cycles = w.cycles;
    decodes = rw (space_is_image image w.bank is) at w.decodes;
    goes_on = w.goes_on;
  }

  leads_now : {a k b k' l : ℕ} → LeadsUnpaged image a k b k' l → Leads image a k b k' l
  leads_now w = record {
    bank = 0;
    instruction = w.instruction;
    bytes = w.bytes;
    cycles = w.cycles;
    decodes = rw (space_is_image image 0 is) w.decodes;
    goes_on = w.goes_on;
  }

  reached_then : {a k : ℕ} → Reachable image wired a k → ReachableUnpaged image wired a k
  reached_then reach.at_reset = at_reset
  reached_then (reach.at_vector s e) = at_vector s e
  reached_then (reach.onward r w) = onward (reached_then r) (leads_then w)

  reached_now : {a k : ℕ} → ReachableUnpaged image wired a k → Reachable image wired a k
  reached_now at_reset = reach.at_reset
  reached_now (at_vector s e) = reach.at_vector s e
  reached_now (onward r w) = reach.onward (reached_now r) (leads_now w)

  least_then : (certificate : List ℕ) (levels : ℕ)
      → Least image wired certificate levels → LeastUnpaged image wired certificate levels
  least_then certificate levels l = record {
    is_accepted = sym (check_as_before image is certificate wired) ∙ l.is_accepted;
    only_reachable = λ a m. reached_then (l.only_reachable a m);
    no_smaller = λ other number e. l.no_smaller other number (check_as_before image is other wired ∙ e);
  }

  least_now : (certificate : List ℕ) (levels : ℕ)
      → LeastUnpaged image wired certificate levels → Least image wired certificate levels
  least_now certificate levels l = record {
    is_accepted = check_as_before image is certificate wired ∙ l.is_accepted;
    only_reachable = λ a m. reached_now (l.only_reachable a m);
    no_smaller = λ other number e. l.no_smaller other number (sym (check_as_before image is other wired) ∙ e);
  }

  -- the questions ask the same
  length_then : is_image (length image) ≡ false → (length image ≢ 2048) × (length image ≢ 4096)
  length_then e = absurd (true≢false (sym (space_image image is) ∙ e))

  length_now : (length image ≢ 2048) × (length image ≢ 4096) → is_image (length image) ≡ false
  length_now n = absurd (⊎_elim n.0 n.1 (space_length (length image) is))

  buffer_same : (n : ℕ) → (n ≢ marks_in (length image)) ↔ (n ≢ length image)
  buffer_same n =
      (λ h e. h (e ∙ sym (a_mark_each image is)), λ h e. h (e ∙ a_mark_each image is))

  none_then : NoneAccepted image wired → NoneUnpaged image wired
  none_then n certificate levels e = n certificate levels (check_as_before image is certificate wired ∙ e)

  none_now : NoneUnpaged image wired → NoneAccepted image wired
  none_now n certificate levels e = n certificate levels (sym (check_as_before image is certificate wired) ∙ e)

  asked : (before : List ℕ) → Same (questions image wired before) (questions_unpaged image wired before)
  asked before = (
    refl,
    (length_then, length_now),
    (
      refl,
      (λ h. h, λ h. h),
      (
        refl,
        buffer_same (length before),
        (refl, (none_then, none_now), tt),
      ),
    ),
  )

pub maker_as_before : MakerAsBefore
maker_as_before image is wired before after (done levels) =
    let now = questions image wired before in
    let then = questions_unpaged image wired before in
    let same : Same now then = asked image is wired before in (
      λ m. (none_same now then same m.0, least_then image is wired after levels m.1),
      λ m. (none_same then now (same_back now then same) m.0, least_now image is wired after levels m.1),
    )
maker_as_before image is wired before after (refused r) =
    let now = questions image wired before in
    let then = questions_unpaged image wired before in
    let same : Same now then = asked image is wired before in (
      λ m. (first_same now then r same m.0, m.1),
      λ m. (first_same then now r (same_back now then same) m.0, m.1),
    )
