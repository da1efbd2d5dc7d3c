-- Findings that answer a list of questions: what proves "the first that applies is given" part by part.
use Prim.Native.Nat.{ℕ}
use mathlib.Core.Path.{◌≡◌, refl}
use mathlib.Core.Logic.{inl, inr}
use mathlib.Core.Bool.{Bool, true, false}
use mathlib.Core.List.{List, [], ◌∷◌, ◌++◌}
use Rattle.isa.specs.Refusals.{unless}
use Rattle.certificate.specs.Findings.{Found, passes, fault, and_then}
use Rattle.certificate.specs.Check.{verdict}
use Rattle.certificate.specs.Refusals.{Question, None, FirstApplies, Described}

-- a finding answers questions: it passes where none applies, and is a fault with the first that does
abbrev pub Decided : List Question → Found → Type 0
Decided qs passes = None qs
Decided qs (fault r) = FirstApplies qs r

-- as a record, so that questions and finding are read off its type
pub record Decides (qs : List Question) (f : Found) : Type 0 where
  pub decided : Decided qs f

pub nothing : Decides [] passes
nothing = record { decided = tt }

-- a question that does not apply, before others
skip_it : (q : Question) (qs : List Question) (f : Found) → (q.Applies → ⊥) → Decided qs f → Decided (q ∷ qs) f
skip_it q qs passes not_so d = (not_so, d)
skip_it q qs (fault r) not_so d = inr (not_so, d)

pub skip : (q : Question) {qs : List Question} {f : Found} → (q.Applies → ⊥) → Decides qs f → Decides (q ∷ qs) f
skip q {qs} {f} not_so d = record { decided = skip_it q qs f not_so d.decided }

-- a test that answers a question, before others, which may take for granted that it passed
pub ask : (q : Question) {qs : List Question} (t : Bool) (f : Found) → (t ≡ true → q.Applies → ⊥)
    → (t ≡ false → q.Applies)
    → (t ≡ true → Decides qs f) → Decides (q ∷ qs) (unless t (fault q.refusal) f)
ask q true f not_so is-so more = skip q (not_so refl) (more refl)
ask q false f not_so is-so more = record { decided = inl (is-so refl, refl) }

-- two findings, one after the other
then_it : (qs qs' : List Question) (f g : Found) → Decided qs f → Decided qs' g → Decided (qs ++ qs') (and_then f g)
then_it [] qs' passes g d e = e
then_it [] qs' (fault r) g d e = absurd d
then_it (q ∷ qs) qs' passes g d e = skip_it q (qs ++ qs') g d.0 (then_it qs qs' passes g d.1 e)
then_it (q ∷ qs) qs' (fault r) g (inl a) e = inl a
then_it (q ∷ qs) qs' (fault r) g (inr d) e = inr (d.0, then_it qs qs' (fault r) g d.1 e)

pub decides_then : {qs qs' : List Question} (f g : Found) → Decides qs f → Decides qs' g
    → Decides (qs ++ qs') (and_then f g)
decides_then {qs} {qs'} f g d e = record { decided = then_it qs qs' f g d.decided e.decided }

-- the answer of a finding
describe_it : (qs : List Question) (levels : ℕ) (f : Found) → Decided qs f → Described qs levels (verdict levels f)
describe_it qs levels passes d = (d, refl)
describe_it qs levels (fault r) d = d

pub describes : {qs : List Question} (levels : ℕ) (f : Found) → Decides qs f → Described qs levels (verdict levels f)
describes {qs} levels f d = describe_it qs levels f d.decided
