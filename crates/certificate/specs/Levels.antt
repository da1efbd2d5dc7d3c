-- The levels that a certificate allows for (document 01, "The certificate": "Levels = ..").
use Rattle.std.specs.Prelude.{ℕ, ◌+◌, max, cond, List, [], ◌∷◌}
use Rattle.isa.specs.Sources.{is_named, vector_of, reset_vector}
use Rattle.isa.specs.declared.Source.{Source}
use Rattle.isa.specs.declared.Source.TheVariants.{Nmi, First, Second, Third, Fourth}
use Rattle.certificate.specs.Marks.{need_at}

-- "among the wired sources": the needs at the vectors of those sources that are wired
abbrev pub wired_needs : List ℕ → (wired : ℕ) → List Source → List ℕ
wired_needs certificate wired [] = []
wired_needs certificate wired (s ∷ sources) =
    let others = wired_needs certificate wired sources in
    cond (is_named wired s) (need_at certificate (vector_of s) ∷ others) others

-- "greatest need"
abbrev pub greatest : List ℕ → ℕ
greatest [] = 0
greatest (n ∷ ns) = max n (greatest ns)

-- "(1 + greatest need ..) if any"
abbrev pub if_any : (needs : List ℕ) → ℕ
if_any [] = 0
if_any (n ∷ ns) = 1 + greatest (n ∷ ns)

-- "(1 + greatest need among the wired sources 1 to 4) if any"
unfoldable pub source_levels : List ℕ → (wired : ℕ) → ℕ
source_levels certificate wired = if_any (wired_needs certificate wired (First ∷ Second ∷ Third ∷ Fourth ∷ []))

-- of one source: "(1 + need at FFCh) if NMI is wired"
unfoldable pub levels_for : List ℕ → (wired : ℕ) → Source → ℕ
levels_for certificate wired s = cond (is_named wired s) (1 + need_at certificate (vector_of s)) 0

-- "Levels = need at FFEh, plus (1 + greatest need among the wired sources 1 to 4) if any, plus (1 + need at FFCh) if
-- NMI is wired."
unfoldable pub levels_of : List ℕ → (wired : ℕ) → ℕ
levels_of certificate wired =
    need_at certificate reset_vector + source_levels certificate wired + levels_for certificate wired Nmi
