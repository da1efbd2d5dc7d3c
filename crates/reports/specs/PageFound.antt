-- The page with which the check found a rule broken: "a refusal names the page that it was found with".
use Rattle.std.specs.Prelude.{ℕ, ◌<◌, ◌≡◌, ◌⊎◌, Bool, true, false, List, eqb, length}
use Rattle.isa.specs.Refusals.{plain, located, done, refused}
use Rattle.isa.specs.Rom.{space_of, spaces_in}
use Rattle.certificate.specs.Check.{Verdict, check_of}

-- an answer refuses at an address
abbrev pub refuses_at : (a : ℕ) → Verdict → Bool
refuses_at a (done levels) = false
refuses_at a (refused (plain number)) = false
refuses_at a (refused (located number at)) = eqb at a

-- the check of program space as it stands with a page in place refuses at an address
abbrev pub refuses_with : (image certificate : List ℕ) → (wired a page : ℕ) → Bool
refuses_with image certificate wired a page = refuses_at a (check_of (space_of image page) certificate wired)

-- the first page with which it does, or there is none
pub record FoundFirst (image certificate : List ℕ) (wired a page : ℕ) : Type 0 where
  pub before : (k : ℕ) → k < page → refuses_with image certificate wired a k ≡ false
  pub here :
      (refuses_with image certificate wired a page ≡ true)
      ⊎ ((k : ℕ) → k < spaces_in (length image) → refuses_with image certificate wired a k ≡ false)
