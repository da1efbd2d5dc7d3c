-- What the maker answers of every image, wired byte and buffer, in document 02's words (W-202). The maker promises
-- `Makes` (specs/Make) of its answer; the three claims are what follows from it: `MadeIsLeast`, `RefusalsExactly` and
-- `OneAnswer`.
use Rattle.std.specs.Prelude.{ℕ, ◌≤◌, ◌≡◌, ◌⊎◌, List, [], ◌∷◌, ◌++◌, length}
use Rattle.certificate.specs.Check.{marks_in}
use Rattle.isa.specs.Refusals.{Numbered, Answer, done, refused}
use Rattle.certificate.specs.Marks.{mark_at, Marked, kind_at, need_at}
use Rattle.certificate.specs.Check.{accepted, check_of}
use Rattle.certificate.specs.Refusals.{Question, None}
use Rattle.maker.specs.Reach.{Reachable}
use Rattle.maker.specs.Least.{NoSmaller}
use Rattle.maker.specs.Make.{questions, Makes}

-- another certificate has a mark at an address too, of the same kind and with at least the same need
pub record Covers (other certificate : List ℕ) (a : ℕ) : Type 0 where
  pub is_marked : Marked other a
  pub same_kind : kind_at other a ≡ kind_at certificate a
  pub need_least : need_at certificate a ≤ need_at other a

-- what the buffer holds where the maker answers a number of levels
pub record MadeLeast (image : List ℕ) (wired : ℕ) (certificate : List ℕ) (levels : ℕ) : Type 0 where
  -- "write .. the accepted certificate": the check accepts it, with the number that the maker answers
  pub is_accepted : check_of image certificate wired ≡ accepted levels
  -- ".. that marks only addresses reachable from FFEh or a wired vector", each with the kind that it is reached with
  pub marked_reachable : (a : ℕ) → Marked certificate a → Reachable image wired a (kind_at certificate a)
  -- it marks all of these too, so an address is reached with one kind only
  pub reachable_marked :
      (a kind : ℕ) → Reachable image wired a kind → Marked certificate a × (kind_at certificate a ≡ kind)
  -- ".. with the least need at each": an accepted certificate has a mark at each of these addresses, of the same kind,
  -- with at least this need
  pub least_need :
      (other : List ℕ) (number : ℕ) → check_of image other wired ≡ accepted number
      → (a : ℕ) → Marked certificate a → Covers other certificate a
  -- ".. so no accepted one has a smaller need anywhere": at every address, marked or not
  pub no_smaller : NoSmaller image wired certificate
  -- "into a lent buffer": all of the buffer is written, a mark for each byte of the image ..
  pub whole : length certificate ≡ marks_in (length image)
  -- .. which is 00h where the address is reached with no kind
  pub unreachable : (a : ℕ) → ((kind : ℕ) → Reachable image wired a kind → ⊥) → mark_at certificate a ≡ 0x00

-- "Given image and wired byte, write into a lent buffer the accepted certificate that marks only addresses reachable
-- from FFEh or a wired vector, with the least need at each, so no accepted one has a smaller need anywhere."
-- proved by made_is_least, proofs/Outcomes
abbrev pub MadeIsLeast : Type 0
MadeIsLeast =
    (image : List ℕ) (wired : ℕ) (before after : List ℕ) (levels : ℕ) → Makes image wired before after (done levels)
    → MadeLeast image wired after levels

-- a refusal is given exactly when its question applies and none of the earlier ones does: only then, and always then
pub record GivenExactly (earlier : List Question) (q : Question) (answer : Answer ℕ) : Type 0 where
  pub only : answer ≡ refused q.refusal → None earlier × q.Applies
  pub always : None earlier → q.Applies → answer ≡ refused q.refusal

-- each question of a list is so, after those before it
abbrev pub EachExactly : (earlier qs : List Question) → Answer ℕ → Type 0
EachExactly earlier [] answer = Unit
EachExactly earlier (q ∷ later) answer = GivenExactly earlier q answer × EachExactly (earlier ++ (q ∷ [])) later answer

-- a refusal is that of one of the questions
abbrev pub IsAsked : List Question → Numbered → Type 0
IsAsked [] r = ⊥
IsAsked (q ∷ qs) r = (r ≡ q.refusal) ⊎ IsAsked qs r

-- 1, 11, 25 and 26, where the maker gives an answer to an image, a wired byte and a buffer, of which `before` is what
-- it holds before the call, and `after` what it holds afterwards
pub record Refuses (image : List ℕ) (wired : ℕ) (before after : List ℕ) (answer : Answer ℕ) : Type 0 where
  -- "It refuses with 1, then 11, then 25 when the buffer isn't the image's length, then 26 exactly when no certificate
  -- would be accepted": each exactly when it applies and none of the earlier ones does
  pub each : EachExactly [] (questions image wired before) answer
  -- no other number is given
  pub no_other : (r : Numbered) → answer ≡ refused r → IsAsked (questions image wired before) r
  -- a refusal leaves the buffer as it was
  pub untouched : (r : Numbered) → answer ≡ refused r → after ≡ before
  -- a certificate is written exactly when none of 1, 11, 25 and 26 applies: only then ..
  pub written_only : (levels : ℕ) → answer ≡ done levels → None (questions image wired before)
  -- .. and always then
  pub written_always : None (questions image wired before) → (levels : ℕ) × (answer ≡ done levels)

-- "It refuses with 1, then 11, then 25 when the buffer isn't the image's length, then 26 exactly when no certificate
-- would be accepted."
-- proved by refusals_exactly, proofs/Outcomes
abbrev pub RefusalsExactly : Type 0
RefusalsExactly =
    (image : List ℕ) (wired : ℕ) (before after : List ℕ) (answer : Answer ℕ) → Makes image wired before after answer
    → Refuses image wired before after answer

-- the program has no choice: two answers to the same image, wired byte and buffer are the same, and so is what the
-- buffer holds afterwards. There is one least certificate.
-- proved by one_answer, proofs/Outcomes
abbrev pub OneAnswer : Type 0
OneAnswer =
    (image : List ℕ) (wired : ℕ) (before after after' : List ℕ) (answer answer' : Answer ℕ)
    → Makes image wired before after answer → Makes image wired before after' answer'
    → (answer ≡ answer') × (after ≡ after')
