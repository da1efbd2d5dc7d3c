-- Every address of an answer is below 1000h: those of the marks, and of the vectors.
use Prim.Native.Nat.{ℕ, zero, suc, ◌+◌, ◌<◌, ◌≤◌}
use native.Mathlib.Omega.{arith}
use mathlib.Core.Path.{◌≡◌, sym, subst}
use mathlib.Core.Bool.{Bool, true, false}
use mathlib.Core.Logic.{inl, inr}
use mathlib.Core.List.{List, [], ◌∷◌, ◌++◌}
use lib.Dec.{leb, eqb}
use lib.ListN.{length, get_or}
use Rattle.isa.specs.Refusals.{Numbered, plain, located, refused, unless}
use Rattle.isa.specs.Rom.{spaces_in, space_of}
use Rattle.isa.specs.Decode.{decode_at}
use Rattle.certificate.specs.Marks.{lowest}
use Rattle.certificate.specs.Check.{Verdict}
use Rattle.certificate.specs.Refusals.{Question, FirstApplies, questions, at_instruction, at_pages, at_mark, at_marks}
use Rattle.certificate.specs.Refusals.{at_vectors, too_many_levels}
use Rattle.certificate.proofs.Facts.{at_most_4096}
use Rattle.certificate.proofs.Refusals.{answers_first}
use Rattle.jobs.specs.CheckJob.{is_whole, job_of, image_of, certificate_of, rom_bytes, wired_of}
use Rattle.jobs.specs.Addresses.{ThreeDigitsAreEnough}

-- a refusal's address, if it has one, is below 1000h
abbrev Below : Numbered → Type 0
Below (plain n) = Unit
Below (located n a) = a < 0x1000

abbrev AllBelow : List Question → Type 0
AllBelow [] = Unit
AllBelow (q ∷ qs) = Below q.refusal × AllBelow qs

joined : (ps qs : List Question) → AllBelow ps → AllBelow qs → AllBelow (ps ++ qs)
joined [] qs p q = q
joined (x ∷ ps) qs p q = (p.0, joined ps qs p.1 q)

first_below : (qs : List Question) (r : Numbered) → AllBelow qs → FirstApplies qs r → Below r
first_below [] r b f = absurd f
first_below (q ∷ qs) r b (inl f) = subst (λ (x : Numbered). Below x) (sym f.1) b.0
first_below (q ∷ qs) r b (inr f) = first_below qs r b.1 f.1

module _ (image certificate : List ℕ) (wired : ℕ) where
  pages_below : (n a : ℕ) → a < 0x1000 → AllBelow (at_pages certificate image n a)
  pages_below zero a low = tt
  pages_below (suc n) a low =
      joined (at_pages certificate image n a) (at_instruction certificate (decode_at (space_of image n) a) a)
      (pages_below n a low) (low, (low, (low, (low, (low, tt)))))

  marks_below : (count a : ℕ) → a + count ≤ 0x1000 → AllBelow (at_marks certificate image count a)
  marks_below zero a h = tt
  marks_below (suc n) a h =
      let low : a < 0x1000 = omega arith in
      joined (at_mark certificate image a) (at_marks certificate image n (suc a))
      (low, pages_below (spaces_in (length image)) a low)
      (marks_below n (suc a) (omega arith))

  -- the questions of the marks, and all that come after 1, 13 and 11
  abbrev marks : List Question
  marks = at_marks certificate image (length certificate) (lowest certificate)

  abbrev rules : List Question
  rules = (marks ++ at_vectors certificate wired) ++ (too_many_levels certificate wired ∷ [])

  rules_below : length certificate ≤ 0x1000 → AllBelow rules
  rules_below h =
      joined (marks ++ at_vectors certificate wired) (too_many_levels certificate wired ∷ [])
      (joined marks (at_vectors certificate wired) (marks_below (length certificate) (lowest certificate) (omega arith))
      (omega arith, (omega arith, (omega arith, (omega arith, (omega arith, (omega arith, tt)))))))
      (tt, tt)

  check_below : (r : Numbered) → FirstApplies (questions image certificate wired) r → Below r
  check_below r (inl f) = subst (λ (x : Numbered). Below x) (sym f.1) tt
  check_below r (inr (size, inl f)) = subst (λ (x : Numbered). Below x) (sym f.1) tt
  check_below r (inr (size, inr (same, inl f))) = subst (λ (x : Numbered). Below x) (sym f.1) tt
  check_below r (inr (size, inr (same, inr (known, f)))) =
      let short : 0x1000 < length certificate → ⊥ = λ h. same (λ e. omega (arith, at_most_4096 (length image))) in
      first_below rules r (rules_below (omega (arith, short))) f

-- where a job is refused with an address, its check refuses
from_check :
    {number address : ℕ} {v : Verdict} (long version whole : Bool)
    → unless long (refused (plain 20)) (unless version (refused (plain 21)) (unless whole (refused (plain 22)) v))
    ≡ refused (located number address)
    → v ≡ refused (located number address)
from_check true true true e = e
from_check true true false e = cc
from_check true false whole e = cc
from_check false version whole e = cc

pub three_digits_are_enough : ThreeDigitsAreEnough
unfolding job_of
three_digits_are_enough job number address e =
    let image = image_of (rom_bytes job) job in
    let certificate = certificate_of (rom_bytes job) job in
    let wired = wired_of job in
    let refuses = from_check (leb 3 (length job)) (eqb (get_or job 0 0) 1) (is_whole job) e in
    check_below image certificate wired (located number address) (rw refuses at (answers_first image certificate wired))
