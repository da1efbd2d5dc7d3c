-- The vectors of reset and of the wired sources (document 01, "Check": "18 vector kind").
use Rattle.std.specs.Prelude.{ℕ, cond, List, eqb}
use Rattle.isa.specs.Refusals.{located, unless}
use Rattle.isa.specs.Sources.{is_named, vector_of, reset_vector}
use Rattle.isa.specs.declared.Source.{Source}
use Rattle.isa.specs.declared.Source.TheVariants.{Nmi, First, Second, Third, Fourth}
use Rattle.certificate.specs.Findings.{Found, passes, fault, and_then}
use Rattle.certificate.specs.Marks.{kind_at}

-- "18 vector kind": a vector that must have a kind
unfoldable pub vector_found : List ℕ → (vector kind : ℕ) → Found
vector_found certificate vector kind = unless (eqb (kind_at certificate vector) kind) (fault (located 18 vector)) passes

-- "Each wired source's vector has kind 3."
unfoldable pub source_found : List ℕ → (wired : ℕ) → Source → Found
source_found certificate wired s = cond (is_named wired s) (vector_found certificate (vector_of s) 3) passes

-- "Then 18 vector kind, FFEh first, then sources upward"
unfoldable pub vectors_found : List ℕ → (wired : ℕ) → Found
vectors_found certificate wired =
    and_then (vector_found certificate reset_vector 1)
    (and_then (source_found certificate wired Nmi)
    (and_then (source_found certificate wired First)
    (and_then (source_found certificate wired Second)
    (and_then (source_found certificate wired Third) (source_found certificate wired Fourth)))))
