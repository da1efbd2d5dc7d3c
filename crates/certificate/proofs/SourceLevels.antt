-- The levels of the sources 1 to 4: the greatest of what each takes; and bounds by which sums of levels fit a byte.
use Prim.Native.Nat.{ℕ, ◌+◌, ◌≤◌, max}
use native.Mathlib.Nat.{max-zero, zero-max, suc-max-suc, max-le}
use native.Mathlib.Numerals.{one-add}
use native.Mathlib.Omega.{arith}
use mathlib.Core.Path.{◌≡◌, refl, sym}
use mathlib.Core.Bool.{Bool, true, false, cond}
use mathlib.Core.List.{List, [], ◌∷◌}
use Rattle.isa.specs.Sources.{is_named, vector_of}
use Rattle.isa.specs.declared.Source.{Source}
use Rattle.isa.specs.declared.Source.TheVariants.{First, Second, Third, Fourth}
use Rattle.certificate.specs.Marks.{need_at}
use Rattle.certificate.specs.Levels.{wired_needs, if_any, source_levels, levels_for}

-- one need more, where its source is wired
one_more : (wired : Bool) (n : ℕ) (ns : List ℕ) → if_any (cond wired (n ∷ ns) ns) ≡ max (cond wired (1 + n) 0) (if_any ns)
one_more true n [] = rw (max-zero n, max-zero (1 + n))
one_more true n (m ∷ ns) = simp (one-add, suc-max-suc)
one_more false n ns = sym (zero-max (if_any ns))

one_source : (certificate : List ℕ) (wired : ℕ) (s : Source) (sources : List Source)
    → if_any (wired_needs certificate wired (s ∷ sources))
    ≡ max (levels_for certificate wired s) (if_any (wired_needs certificate wired sources))
unfolding levels_for
one_source certificate wired s sources =
    one_more (is_named wired s) (need_at certificate (vector_of s)) (wired_needs certificate wired sources)

-- the definition by a list of needs is the greatest of four
pub source_levels_lem : (certificate : List ℕ) (wired : ℕ)
    → source_levels certificate wired
    ≡ max (levels_for certificate wired First)
    (max (levels_for certificate wired Second)
    (max (levels_for certificate wired Third) (levels_for certificate wired Fourth)))
unfolding source_levels
source_levels_lem certificate wired =
    rw (
      one_source certificate wired First (Second ∷ Third ∷ Fourth ∷ []),
      one_source certificate wired Second (Third ∷ Fourth ∷ []),
      one_source certificate wired Third (Fourth ∷ []),
      one_source certificate wired Fourth [],
      max-zero,
    )

-- a need is a digit, so that a service takes at most 16 levels
pub need_most : (certificate : List ℕ) (a : ℕ) {r : ℕ} → r ≡ need_at certificate a → r ≤ 15
unfolding need_at
need_most certificate a e = omega arith

pub levels_most : (certificate : List ℕ) (wired : ℕ) (s : Source) {r : ℕ} → r ≡ levels_for certificate wired s → r ≤ 16
unfolding levels_for
levels_most certificate wired s {r} e = go (is_named wired s) e
  where
    go : (w : Bool) → r ≡ cond w (1 + need_at certificate (vector_of s)) 0 → r ≤ 16
    go true e = omega (arith, need_most certificate (vector_of s) refl)
    go false e = omega arith

pub sources_most : (certificate : List ℕ) (wired : ℕ) {r : ℕ} → r ≡ source_levels certificate wired → r ≤ 16
sources_most certificate wired e =
    rw (e, source_levels_lem) (max-le (each First) (max-le (each Second) (max-le (each Third) (each Fourth))))
  where
    each : (s : Source) → levels_for certificate wired s ≤ 16
    each s = levels_most certificate wired s refl
