-- The first source of a list whose request is taken: what the loop over the sources looks for.
use Prim.Native.Nat.{ℕ, ◌+◌, ◌<◌}
use mathlib.Core.Path.{◌≡◌}
use mathlib.Core.Bool.{Bool, cond}
use mathlib.Core.List.{List, [], ◌∷◌}
use lib.ListN.{length, get_or, drop}
use Rattle.std.proofs.lemmas.List.{at_drop_more}
use Rattle.std.specs.Prelude.{Option, Some, None}
use Rattle.isa.specs.declared.Source.{Source}
use Rattle.isa.specs.declared.Source.TheVariants.{Nmi, First, Second, Third, Fourth}
use Rattle.control.specs.declared.Mode.{Mode}
use Rattle.control.specs.Requests.{is_taken}

abbrev pub sources : List Source
sources = Nmi ∷ First ∷ Second ∷ Third ∷ Fourth ∷ []

abbrev pub first_taken : Mode → (enabled : Bool) → (request : ℕ) → List Source → Option Source
first_taken mode enabled request [] = None
first_taken mode enabled request (s ∷ rest) =
    cond (is_taken mode enabled request s) (Some s) (first_taken mode enabled request rest)

-- the first from an index on is the one there, or the first from the next index on
pub first_at :
    (mode : Mode) (enabled : Bool) (request : ℕ) (xs : List Source) (i : ℕ) (b : Bool) → i < length xs →
    b ≡ is_taken mode enabled request (get_or xs i Nmi) →
    first_taken mode enabled request (drop i xs)
    ≡ cond b (Some (get_or xs i Nmi)) (first_taken mode enabled request (drop (i + 1) xs))
first_at mode enabled request xs i b h e = rw e (at_drop_more (first_taken mode enabled request) xs i Nmi h)
