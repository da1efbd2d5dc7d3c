-- "With one page all equals the 4K machine" (document 02, W-210): what the check answered of an image without pages to
-- choose from, by its definition as it was. The rules were looked at once for each mark, in the image itself.
use Rattle.std.specs.Prelude.{ℕ, suc, ◌≡◌, true, List, [], ◌∷◌, eqb, length}
use Rattle.isa.specs.Rom.{is_space}
use Rattle.isa.specs.Refusals.{plain, unless}
use Rattle.isa.specs.Sources.{names_only_sources}
use Rattle.certificate.specs.Marks.{lowest}
use Rattle.certificate.specs.Findings.{Found, passes, fault, and_then}
use Rattle.certificate.specs.Vectors.{vectors_found}
use Rattle.certificate.specs.Levels.{levels_of}
use Rattle.certificate.specs.Check.{Verdict, levels_found, verdict, check_of}
use Rattle.certificate.specs.Passes.{page_found}

-- the marks, upward
unfoldable pub marks_unpaged : (image certificate : List ℕ) → (a : ℕ) → List ℕ → Found
marks_unpaged image certificate a [] = passes
marks_unpaged image certificate a (mark ∷ marks) =
    let more = marks_unpaged image certificate (suc a) marks in
    and_then (page_found image certificate a mark) more

-- the check
unfoldable pub check_unpaged : (image certificate : List ℕ) → (wired : ℕ) → Verdict
check_unpaged image certificate wired =
    verdict (levels_of certificate wired)
    (unless (is_space (length image)) (fault (plain 1))
    (unless (eqb (length certificate) (length image)) (fault (plain 13))
    (unless (names_only_sources wired) (fault (plain 11))
    (and_then
    (and_then (marks_unpaged image certificate (lowest certificate) certificate) (vectors_found certificate wired))
    (levels_found certificate wired)))))

-- proved by check_as_before, proofs/OnePage
abbrev pub CheckAsBefore : Type 0
CheckAsBefore =
    (image : List ℕ) → is_space (length image) ≡ true → (certificate : List ℕ) (wired : ℕ) →
    check_of image certificate wired ≡ check_unpaged image certificate wired
