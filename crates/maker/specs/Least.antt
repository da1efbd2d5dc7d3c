-- The least certificate of an image and its wired sources (document 02, W-202).
use Rattle.std.specs.Prelude.{ℕ, ◌≤◌, ◌≡◌, List}
use Rattle.certificate.specs.Marks.{Marked, kind_at, need_at}
use Rattle.certificate.specs.Check.{accepted, check_of}
use Rattle.maker.specs.Reach.{Reachable}

-- "no certificate would be accepted": the check accepts no list of marks, of any length
abbrev pub NoneAccepted : (image : List ℕ) → (wired : ℕ) → Type 0
NoneAccepted image wired = (certificate : List ℕ) (levels : ℕ) → check_of image certificate wired ≡ accepted levels → ⊥

-- "no accepted one has a smaller need anywhere"
abbrev pub NoSmaller : (image : List ℕ) → (wired : ℕ) → (certificate : List ℕ) → Type 0
NoSmaller image wired certificate =
    (other : List ℕ) (levels : ℕ) → check_of image other wired ≡ accepted levels
    → (a : ℕ) → need_at certificate a ≤ need_at other a

-- "the accepted certificate that marks only addresses reachable from FFEh or a wired vector, with the least need at
-- each"; that it marks all of these, and that there is at most one, follows (`MadeIsLeast`, `OneAnswer`)
pub record Least (image : List ℕ) (wired : ℕ) (certificate : List ℕ) (levels : ℕ) : Type 0 where
  pub is_accepted : check_of image certificate wired ≡ accepted levels
  -- each with the kind that it is reached with
  pub only_reachable : (a : ℕ) → Marked certificate a → Reachable image wired a (kind_at certificate a)
  pub no_smaller : NoSmaller image wired certificate
