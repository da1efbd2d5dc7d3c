-- What the certificate check answers (document 01, "Check"): the first refusal that applies, or the number of levels.
use Rattle.std.specs.Prelude.{ℕ, zero, suc, cond, List, [], ◌∷◌, leb, ltb, eqb, length}
use Rattle.isa.specs.Decode as decode
use Rattle.isa.specs.Rom.{is_image, spaces_in, space_of}
use Rattle.isa.specs.Decode.{Decoding, decode_at}
use Rattle.isa.specs.Displacement.{forward_of}
use Rattle.isa.specs.ControlFlow.{flow_of}
use Rattle.isa.specs.Refusals.{plain, located, Answer, done, refused, unless}
use Rattle.isa.specs.Sources.{names_only_sources}
use Rattle.isa.specs.declared.Flow.{Flow}
use Rattle.certificate.specs.Findings.{Found, passes, fault, and_then}
use Rattle.certificate.specs.Marks.{kind_of, need_of, lowest}
use Rattle.certificate.specs.Successors.{placed, successors_of, successors_found}
use Rattle.certificate.specs.Vectors.{vectors_found}
use Rattle.certificate.specs.Levels.{levels_of}

-- the check's answer: "the number is Levels", or "A refusal is a number"
abbrev pub Verdict : Type 0
Verdict = Answer ℕ

abbrev pub accepted : (levels : ℕ) → Verdict
accepted levels = done levels

-- "15 misplaced RET or RETI; 16 ..; 17 .."
unfoldable pub flow_found : List ℕ → (a mark : ℕ) → Flow → (next : ℕ) → Found
flow_found certificate a mark flow next =
    unless (placed (kind_of mark) flow) (fault (located 15 a))
    (successors_found certificate a (need_of mark) (successors_of (kind_of mark) flow next))

-- "4, 5, 4": what decoding refuses
unfoldable pub decoded_found : List ℕ → (a mark : ℕ) → Answer Decoding → Found
decoded_found certificate a mark (done (decode.instruction i bytes cycles)) =
    flow_found certificate a mark (flow_of i a) (forward_of a bytes)
decoded_found certificate a mark (refused refusal) = fault refusal

-- "all its rules with page 0 in place, then all with the next, to the last" (document 02, W-210): with so many pages
unfoldable pub pages_found : (image certificate : List ℕ) → (a mark pages : ℕ) → Found
pages_found image certificate a mark zero = passes
pages_found image certificate a mark (suc n) =
    and_then (pages_found image certificate a mark n) (decoded_found certificate a mark (decode_at (space_of image n) a))

-- "marked addresses .., at each: 14 malformed mark", once, then with the pages in turn
unfoldable pub mark_found : (image certificate : List ℕ) → (pages a mark : ℕ) → Found
mark_found image certificate pages a zero = passes
mark_found image certificate pages a (suc m) =
    unless (ltb 0 (kind_of (suc m))) (fault (located 14 a)) (pages_found image certificate a (suc m) pages)

-- "Then marked addresses upward": the marks of a part of the certificate, of which the first stands at address a
unfoldable pub marks_found : (image certificate : List ℕ) → (pages a : ℕ) → List ℕ → Found
marks_found image certificate pages a [] = passes
marks_found image certificate pages a (mark ∷ marks) =
    let more = marks_found image certificate pages (suc a) marks in
    and_then (mark_found image certificate pages a mark) more

-- "19 more than six levels"
abbrev pub levels_found : List ℕ → (wired : ℕ) → Found
levels_found certificate wired = unless (leb (levels_of certificate wired) 6) (fault (plain 19)) passes

-- "Then marked addresses upward .. Then 18 ..; 19 .."
abbrev pub rules_found : (image certificate : List ℕ) → (wired : ℕ) → Found
rules_found image certificate wired =
    and_then
    (and_then (marks_found image certificate (spaces_in (length image)) (lowest certificate) certificate)
    (vectors_found certificate wired))
    (levels_found certificate wired)

-- "Accepted means that nothing under Check below applies; the number is Levels."
abbrev pub verdict : (levels : ℕ) → Found → Verdict
verdict levels passes = accepted levels
verdict levels (fault refusal) = refused refusal

-- "One mark for each ROM byte", and of a paged image for each address: "Their certificates are 4,096 marks" (W-210)
abbrev pub marks_in : (length : ℕ) → ℕ
marks_in n = cond (eqb n 2048) 2048 4096

-- "Check: 1, 13 (certificate not the image's length), 11 (wired byte). Then .."
unfoldable pub check_of : (image certificate : List ℕ) → (wired : ℕ) → Verdict
check_of image certificate wired =
    verdict (levels_of certificate wired)
    (unless (is_image (length image)) (fault (plain 1))
    (unless (eqb (length certificate) (marks_in (length image))) (fault (plain 13))
    (unless (names_only_sources wired) (fault (plain 11)) (rules_found image certificate wired))))
