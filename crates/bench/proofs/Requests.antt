-- The request that a step takes: its byte asks for it, and the mode takes it.
use Prim.Native.Nat.{ℕ, ◌+◌}
use mathlib.Core.Path.{◌≡◌, refl}
use mathlib.Core.Bool.{Bool, true, false, cond, false≢true, and-eq-true_iff}
use mathlib.Core.List.{List}
use Rattle.std.specs.Prelude.{Option, Some, None}
use Rattle.isa.specs.Sources.{is_named, vector_of}
use Rattle.isa.specs.declared.Source.{Source}
use Rattle.isa.specs.declared.Source.TheVariants.{Nmi, First, Second, Third, Fourth}
use Rattle.control.specs.declared.Mode.{Mode}
use Rattle.control.specs.declared.Mode.TheVariants.{Reset, Normal, Interrupt, NmiOverNormal, NmiOverInterrupt}
use Rattle.control.specs.Requests.{can_take, is_taken, requested_of}
use Rattle.certificate.specs.Marks.{need_at}
use Rattle.certificate.specs.Levels.{levels_for}
use Rattle.certificate.specs.Rules.{Rules}
use Rattle.bench.specs.Calls.{AsksOnly}
use Rattle.bench.proofs.Moves.{Takes, nmi, first, second, third, fourth, nested, Wired}

-- the request that is taken, if any, has a property
abbrev pub IfTaken : (Source → Type 0) → Option Source → Type 0
IfTaken P None = Unit {0}
IfTaken P (Some source) = P source

one_asks : (P : Source → Type 0) (source : Source) (more : Option Source) (b : Bool) → (b ≡ true → P source)
    → IfTaken P more → IfTaken P (cond b (Some source) more)
one_asks P source more true p rest = p refl
one_asks P source more false p rest = rest

if_taken : (P : Source → Type 0) (mode : Mode) (enabled : Bool) (request : ℕ)
    → ((s : Source) → is_taken mode enabled request s ≡ true → P s)
    → IfTaken P (requested_of mode enabled request)
unfolding requested_of
if_taken P mode enabled request p =
    one_asks P Nmi _ (is_taken mode enabled request Nmi) (p Nmi)
    (one_asks P First _ (is_taken mode enabled request First) (p First)
    (one_asks P Second _ (is_taken mode enabled request Second) (p Second)
    (one_asks P Third _ (is_taken mode enabled request Third) (p Third)
    (one_asks P Fourth _ (is_taken mode enabled request Fourth) (p Fourth) tt))))

-- the sources that a mode takes
mode_takes : (mode : Mode) (enabled : Bool) (s : Source) → can_take mode enabled s ≡ true → Takes mode s
mode_takes Normal enabled Nmi e = nmi
mode_takes Normal enabled First e = first
mode_takes Normal enabled Second e = second
mode_takes Normal enabled Third e = third
mode_takes Normal enabled Fourth e = fourth
mode_takes Interrupt enabled Nmi e = nested
mode_takes Interrupt enabled First e = absurd (false≢true e)
mode_takes Interrupt enabled Second e = absurd (false≢true e)
mode_takes Interrupt enabled Third e = absurd (false≢true e)
mode_takes Interrupt enabled Fourth e = absurd (false≢true e)
mode_takes Reset enabled s e = absurd (false≢true e)
mode_takes NmiOverNormal enabled s e = absurd (false≢true e)
mode_takes NmiOverInterrupt enabled s e = absurd (false≢true e)

-- the request that is taken is one that the mode takes
pub taken_takes : (mode : Mode) (enabled : Bool) (request : ℕ)
    → IfTaken (Takes mode) (requested_of mode enabled request)
taken_takes mode enabled request =
    if_taken (Takes mode) mode enabled request
    (λ s e. mode_takes mode enabled s ((and-eq-true_iff (is_named request s) (can_take mode enabled s)).0 e).1)

-- a source that the mode takes, and that the certificate has wired
pub record Allowed (certificate : List ℕ) (wired : ℕ) (mode : Mode) (source : Source) : Type 0 where
  pub takes : Takes mode source
  pub wired_source : Wired certificate wired source

levels_wired : (certificate : List ℕ) (wired : ℕ) (s : Source) → is_named wired s ≡ true
    → levels_for certificate wired s ≡ 1 + need_at certificate (vector_of s)
unfolding levels_for
levels_wired certificate wired s e = rw e

-- where only wired sources ask, the request that is taken is allowed
pub taken_allowed : (image certificate : List ℕ) (wired number : ℕ) → Rules image certificate wired number
    → (mode : Mode) (enabled : Bool) (request : ℕ) → AsksOnly wired request
    → IfTaken (Allowed certificate wired mode) (requested_of mode enabled request)
taken_allowed image certificate wired number ok mode enabled request asks =
    if_taken (Allowed certificate wired mode) mode enabled request allowed
  where
    allowed : (s : Source) → is_taken mode enabled request s ≡ true → Allowed certificate wired mode s
    allowed s e =
        let p = (and-eq-true_iff (is_named request s) (can_take mode enabled s)).0 e in
        let w = asks s p.0 in
        record {
          takes = mode_takes mode enabled s p.1;
          wired_source = record { levels = levels_wired certificate wired s w; kind = ok.vectors s w };
        }
