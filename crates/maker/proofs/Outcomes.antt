-- What follows from the maker's promise: the certificate is the least, each refusal is given exactly when it applies,
-- and there is one answer.
use Prim.Native.Nat.{ℕ, ◌+◌, ◌/◌, ◌<◌}
use native.Mathlib.Nat.{le_antisymm}
use native.Mathlib.Omega.{arith}
use mathlib.Core.Path.{◌≡◌, refl, sym, ap, ◌∙◌}
use mathlib.Core.Logic.{◌⊎◌, inl, inr, ◌≢◌}
use mathlib.Core.Bool.{Bool, true, false}
use mathlib.Core.List.{List, [], ◌∷◌, ◌++◌, append_assoc}
use lib.Dec.{eqb}
use lib.ListN.{length, get_or}
use lib.Seq.{ext_get_or}
use borrow.Author.Tests.{eqb-true, eqb-false}
use Rattle.isa.specs.Refusals.{Numbered, plain, located, Answer, done, refused}
use Rattle.certificate.specs.Marks.{mark_at, Marked, kind_at, need_at, lowest}
use Rattle.certificate.specs.Check.{accepted, check_of}
use Rattle.certificate.specs.Rules.{Rules}
use Rattle.certificate.specs.Refusals.{Question, None, FirstApplies}
use Rattle.certificate.proofs.Facts.{kind_of_lem, mark_is, at_most_4096}
use Rattle.certificate.proofs.Agreement.{agreement}
use Rattle.maker.specs.Reach.{Reachable}
use Rattle.maker.specs.Least.{Least}
use Rattle.maker.specs.Make.{questions, Makes}
use Rattle.maker.specs.Outcomes.{Covers, MadeLeast, MadeIsLeast, GivenExactly, EachExactly, IsAsked}
use Rattle.maker.specs.Outcomes.{RefusalsExactly, OneAnswer}
use Rattle.maker.proofs.Reached.{reached_kind, reached, has_mark}

-- an unmarked address or a marked one
pub marked_or_not : (certificate : List ℕ) (a : ℕ) → (mark_at certificate a ≡ 0) ⊎ Marked certificate a
marked_or_not certificate a = go (eqb (mark_at certificate a) 0) refl
  where
    go : (t : Bool) → eqb (mark_at certificate a) 0 ≡ t → (mark_at certificate a ≡ 0) ⊎ Marked certificate a
    go true p = inl (eqb-true (mark_at certificate a) 0 p)
    go false p = inr (eqb-false (mark_at certificate a) 0 p)

-- the rules of an accepted certificate
pub rules_of : {image certificate : List ℕ} {wired levels : ℕ} → check_of image certificate wired ≡ accepted levels
    → Rules image certificate wired levels
rules_of {image} {certificate} {wired} {levels} = (agreement image certificate wired levels).sound

-- what is reached is marked in every accepted certificate, with its kind
reached_marked : {image certificate : List ℕ} {wired levels : ℕ} → Rules image certificate wired levels
    → (a kind : ℕ) → Reachable image wired a kind → Marked certificate a × (kind_at certificate a ≡ kind)
reached_marked {certificate = certificate} rules a kind r =
    let k = reached rules a kind r in
    (has_mark certificate a kind k (reached_kind a kind r).0, k)

module _ {image certificate : List ℕ} {wired levels : ℕ} (least : Least image wired certificate levels) where
  rules : Rules image certificate wired levels
  rules = rules_of least.is_accepted

  covers : (other : List ℕ) (number : ℕ) → check_of image other wired ≡ accepted number → (a : ℕ)
      → Marked certificate a → Covers other certificate a
  covers other number e a n =
      let m = reached_marked (rules_of e) a (kind_at certificate a) (least.only_reachable a n) in
      record { is_marked = m.0; same_kind = m.1; need_least = least.no_smaller other number e a }

  unreachable : (a : ℕ) → ((kind : ℕ) → Reachable image wired a kind → ⊥) → mark_at certificate a ≡ 0
  unreachable a none = go (marked_or_not certificate a)
    where
      go : (mark_at certificate a ≡ 0) ⊎ Marked certificate a → mark_at certificate a ≡ 0
      go (inl e) = e
      go (inr n) = absurd (none (kind_at certificate a) (least.only_reachable a n))

  made_least : MadeLeast image wired certificate levels
  made_least =
      record {
        is_accepted = least.is_accepted;
        marked_reachable = least.only_reachable;
        reachable_marked = reached_marked rules;
        least_need = covers;
        no_smaller = least.no_smaller;
        whole = rules.certificate_length;
        unreachable = unreachable;
      }

-- W-202: what is written
pub made_is_least : MadeIsLeast
made_is_least image wired before after levels makes = made_least makes.1

-- two least certificates have the same marks
module _ {image : List ℕ} {wired : ℕ} where
  same_mark : {c d : List ℕ} {m n : ℕ} → Least image wired c m → Least image wired d n → (a : ℕ) → Marked c a
      → mark_at d a ≡ mark_at c a
  unfolding kind_at need_at
  same_mark {c} {d} {m} {n} p q a k =
      let x = covers p d n q.is_accepted a k in
      let e = kind_of_lem (mark_at c a) ((rules_of p.is_accepted).marked a k).mark in
      let f = kind_of_lem (mark_at d a) ((rules_of q.is_accepted).marked a x.is_marked).mark in
      let high : mark_at d a / 16 ≡ mark_at c a / 16 = sym f ∙ x.same_kind ∙ e in
      let low : need_at c a ≡ need_at d a = le_antisymm x.need_least (q.no_smaller c m p.is_accepted a) in
      omega arith

  same_marks : {c d : List ℕ} {m n : ℕ} → Least image wired c m → Least image wired d n → (a : ℕ)
      → mark_at c a ≡ mark_at d a
  same_marks {c} {d} p q a = go (marked_or_not c a) (marked_or_not d a)
    where
      go : (mark_at c a ≡ 0) ⊎ Marked c a → (mark_at d a ≡ 0) ⊎ Marked d a → mark_at c a ≡ mark_at d a
      go (inr k) t = sym (same_mark p q a k)
      go (inl e) (inr k) = same_mark q p a k
      go (inl e) (inl f) = e ∙ sym f

  one_least : {c d : List ℕ} {m n : ℕ} → Least image wired c m → Least image wired d n → c ≡ d
  one_least {c} {d} p q = ext_get_or 0 c d size same
    where
      size : length c ≡ length d
      size = (rules_of p.is_accepted).certificate_length ∙ sym (rules_of q.is_accepted).certificate_length

      same : (i : ℕ) → i < length c → get_or c i 0 ≡ get_or d i 0
      same i h =
          let rules = rules_of p.is_accepted in
          let most = at_most_4096 (length image) in
          let l = rules.certificate_length in
          let e = size in
          let x = mark_is c i (omega arith) h in
          let y = mark_is d i (omega arith) (omega arith) in
          sym x ∙ same_marks p q (lowest c + i) ∙ (rw (← e) at y)

-- an answer to questions: done where none applies, refused with the first that does
abbrev Answers : List Question → Answer ℕ → Type 0
Answers qs (done levels) = None qs
Answers qs (refused r) = FirstApplies qs r

answers : (image : List ℕ) (wired : ℕ) (before after : List ℕ) (answer : Answer ℕ)
    → Makes image wired before after answer → Answers (questions image wired before) answer
answers image wired before after (done levels) makes = makes.0
answers image wired before after (refused r) makes = makes.0

-- not both
none_or_first : (qs : List Question) (r : Numbered) → None qs → FirstApplies qs r → ⊥
none_or_first [] r none first = first
none_or_first (q ∷ qs) r none (inl p) = none.0 p.0
none_or_first (q ∷ qs) r none (inr p) = none_or_first qs r none.1 p.1

-- done where none applies
written : (qs : List Question) (answer : Answer ℕ) → Answers qs answer → None qs → (levels : ℕ) × (answer ≡ done levels)
written qs (done levels) says none = (levels, refl)
written qs (refused r) says none = absurd (none_or_first qs r none says)

-- there is one first
one_first : (qs : List Question) {r s : Numbered} → FirstApplies qs r → FirstApplies qs s → r ≡ s
one_first [] first other = absurd first
one_first (q ∷ qs) (inl p) (inl o) = p.1 ∙ sym o.1
one_first (q ∷ qs) (inl p) (inr o) = absurd (o.0 p.0)
one_first (q ∷ qs) (inr p) (inl o) = absurd (p.0 o.0)
one_first (q ∷ qs) (inr p) (inr o) = one_first qs p.1 o.1

abbrev number : Numbered → ℕ
number (plain n) = n
number (located n a) = n

-- no question has the refusal's number
abbrev NoneHas : Numbered → List Question → Type 0
NoneHas r [] = Unit
NoneHas r (q ∷ qs) = (number r ≢ number q.refusal) × NoneHas r qs

never_first : (qs : List Question) (r : Numbered) → NoneHas r qs → FirstApplies qs r → ⊥
never_first [] r n first = first
never_first (q ∷ qs) r n (inl p) = n.0 (ap number p.1)
never_first (q ∷ qs) r n (inr p) = never_first qs r n.1 p.1

-- the question q among others
module _ (q : Question) (later : List Question) where
  first_only : (earlier : List Question) → NoneHas q.refusal earlier → NoneHas q.refusal later
      → FirstApplies (earlier ++ (q ∷ later)) q.refusal → None earlier × q.Applies
  first_only [] n m (inl p) = (tt, p.0)
  first_only [] n m (inr p) = absurd (never_first later q.refusal m p.1)
  first_only (e ∷ earlier) n m (inl p) = absurd (n.0 (ap number p.1))
  first_only (e ∷ earlier) n m (inr p) =
      let x = first_only earlier n.1 m p.1 in
      ((p.0, x.0), x.1)

  first_always : (earlier : List Question) (answer : Answer ℕ) → Answers (earlier ++ (q ∷ later)) answer → None earlier
      → q.Applies → answer ≡ refused q.refusal
  first_always [] (done levels) none x a = absurd (none.0 a)
  first_always [] (refused r) (inl p) x a = ap refused p.1
  first_always [] (refused r) (inr p) x a = absurd (p.0 a)
  first_always (e ∷ earlier) (done levels) none x a = first_always earlier (done levels) none.1 x.1 a
  first_always (e ∷ earlier) (refused r) (inl p) x a = absurd (x.0 p.0)
  first_always (e ∷ earlier) (refused r) (inr p) x a = first_always earlier (refused r) p.1 x.1 a

  given_exactly : (earlier : List Question) (answer : Answer ℕ) → Answers (earlier ++ (q ∷ later)) answer
      → NoneHas q.refusal earlier → NoneHas q.refusal later → GivenExactly earlier q answer
  given_exactly earlier answer says n m =
      record { only = λ e. first_only earlier n m (rw e at says); always = first_always earlier answer says }

-- the questions of a list, and those before it, have numbers of their own
abbrev Apart : (earlier qs : List Question) → Type 0
Apart earlier [] = Unit
Apart earlier (q ∷ later) =
    NoneHas q.refusal earlier × (NoneHas q.refusal later × Apart (earlier ++ (q ∷ [])) later)

each_exactly : (earlier qs : List Question) (answer : Answer ℕ) → Apart earlier qs → Answers (earlier ++ qs) answer
    → EachExactly earlier qs answer
each_exactly earlier [] answer apart says = tt
each_exactly earlier (q ∷ later) answer apart says = (
  given_exactly q later earlier answer says apart.0 apart.1.0,
  each_exactly (earlier ++ (q ∷ [])) later answer apart.1.1 (rw (append_assoc earlier (q ∷ []) later) says),
)

-- the first that applies is one of them
is_asked : (qs : List Question) (r : Numbered) → FirstApplies qs r → IsAsked qs r
is_asked [] r first = first
is_asked (q ∷ qs) r (inl p) = inl p.1
is_asked (q ∷ qs) r (inr p) = inr (is_asked qs r p.1)

-- W-202: the refusals
pub refusals_exactly : RefusalsExactly
refusals_exactly image wired before after answer makes =
    let says = answers image wired before after answer makes in
    record {
      each = each_exactly [] (questions image wired before) answer (omega arith) says;
      no_other = λ r e. is_asked (questions image wired before) r (rw e at says);
      untouched = λ r e. (rw e at makes).1;
      written_only = λ levels e. rw e at says;
      written_always = written (questions image wired before) answer says;
    }

-- W-202: no choice
pub one_answer : OneAnswer
one_answer image wired before after after' (done levels) (done levels') makes makes' =
    let same = one_least makes.1 makes'.1 in
    (sym makes.1.is_accepted ∙ (rw (← same) at makes'.1.is_accepted), same)
one_answer image wired before after after' (done levels) (refused r) makes makes' =
    absurd (none_or_first (questions image wired before) r makes.0 makes'.0)
one_answer image wired before after after' (refused r) (done levels) makes makes' =
    absurd (none_or_first (questions image wired before) r makes'.0 makes.0)
one_answer image wired before after after' (refused r) (refused r') makes makes' =
    (ap refused (one_first (questions image wired before) makes.0 makes'.0), makes.1 ∙ sym makes'.1)
