-- A service, with the subroutines and the service above it: every move stays above the interrupted address, or is the
-- RETI that ends the service.
use Prim.Native.Nat.{ℕ, suc, ◌≤◌}
use native.Mathlib.Omega.{arith}
use mathlib.Core.Path.{◌≡◌, refl, ap, ◌∙◌}
use mathlib.Core.Logic.{◌⊎◌, inl, inr, ◌≢◌}
use mathlib.Core.Bool.{false}
use mathlib.Core.List.{List, [], ◌∷◌, ◌++◌}
use lib.ListN.{length}
use Rattle.isa.specs.declared.Source.{Source}
use Rattle.control.specs.declared.Mode.{Mode}
use Rattle.control.specs.declared.Mode.TheVariants.{Reset, Normal, Interrupt, NmiOverNormal, NmiOverInterrupt}
use Rattle.control.specs.Modes.{mode_beneath, is_reset}
use Rattle.control.specs.Requests.{service_mode}
use Rattle.machine.specs.PairUse.{pair_number}
use Rattle.certificate.specs.Marks.{kind_at}
use Rattle.certificate.specs.Rules.{Continues}
use Rattle.bench.specs.ServiceEnds.{open_services}
use Rattle.bench.specs.StackEffect.{StackEffect, by_request, by_reti}
use Rattle.bench.proofs.StackFrames.{Over, source_normal, nmi_normal, nmi_interrupt}
use Rattle.bench.proofs.Moves.{Takes, nmi, first, second, third, fourth, nested, Moves}
use Rattle.bench.proofs.Moves as moves

-- a service is one more than those of the mode that it interrupted
pub over_depth : {m under : Mode} → Over m under → open_services m ≡ suc (open_services under)
over_depth source_normal = refl
over_depth nmi_normal = refl
over_depth nmi_interrupt = refl

pub over_beneath : {m under : Mode} → Over m under → under ≡ mode_beneath m
over_beneath source_normal = refl
over_beneath nmi_normal = refl
over_beneath nmi_interrupt = refl

-- start-up code is no service
pub over_started : {m under : Mode} → Over m under → is_reset m ≡ false
over_started source_normal = refl
over_started nmi_normal = refl
over_started nmi_interrupt = refl

pub over_taken : {m : Mode} {source : Source} → Takes m source → Over (service_mode source m) m
over_taken nmi = nmi_normal
over_taken first = source_normal
over_taken second = source_normal
over_taken third = source_normal
over_taken fourth = source_normal
over_taken nested = nmi_interrupt

-- In the service that mode M began over the return addresses q ∷ t, or in a subroutine or a service above it.
pub data Above (certificate : List ℕ) (M : Mode) (q : ℕ) (t : List ℕ) : Mode → ℕ → List ℕ → Type 0 where
  service : {p : ℕ} → kind_at certificate p ≡ 3 → Above certificate M q t M p (q ∷ t)
  subroutine : {m : Mode} {p r : ℕ} {s : List ℕ} → Above certificate M q t m r s → kind_at certificate p ≡ 4
      → Above certificate M q t m p (r ∷ s)
  inner : {m under : Mode} {p r : ℕ} {s : List ℕ} → Over m under → Above certificate M q t under r s
      → kind_at certificate p ≡ 3 → Above certificate M q t m p (r ∷ s)

-- the RETI that ends the service
pub record Ended (M : Mode) (q : ℕ) (t : List ℕ) (d : StackEffect) (m m' : Mode) (p' : ℕ) (s' : List ℕ) : Type 0 where
  pub is_reti : d ≡ by_reti
  pub in_mode : m ≡ M
  pub mode : m' ≡ mode_beneath M
  pub address : p' ≡ q
  pub levels : s' ≡ t

-- above the service still, and no RETI in its mode
pub record Stays (certificate : List ℕ) (M : Mode) (q : ℕ) (t : List ℕ) (d : StackEffect) (m m' : Mode) (p' : ℕ)
    (s' : List ℕ) : Type 0 where
  pub above : Above certificate M q t m' p' s'
  pub not_ended : d ≡ by_reti → m ≢ M

module _ {certificate : List ℕ} {M : Mode} {q : ℕ} {t : List ℕ} where
  pub suffix : {m : Mode} {p : ℕ} {s : List ℕ} → Above certificate M q t m p s
      → (above : List ℕ) × (s ≡ above ++ (q ∷ t))
  suffix (service k) = ([], refl)
  suffix (subroutine {r = r} a k) = let h = suffix a in (r ∷ h.0, ap (r ∷◌) h.1)
  suffix (inner {r = r} o a k) = let h = suffix a in (r ∷ h.0, ap (r ∷◌) h.1)

  pub deeper : {m : Mode} {p : ℕ} {s : List ℕ} → Above certificate M q t m p s → suc (length t) ≤ length s
  deeper (service k) = omega arith
  deeper (subroutine a k) = let h = deeper a in omega arith
  deeper (inner o a k) = let h = deeper a in omega arith

  pub deep : {m : Mode} {p : ℕ} {s : List ℕ} → Above certificate M q t m p s → open_services M ≤ open_services m
  deep (service k) = omega arith
  deep (subroutine a k) = deep a
  deep (inner o a k) = let h = deep a in omega (arith, over_depth o)

  continue : {m : Mode} {p n : ℕ} {s : List ℕ} → Above certificate M q t m p s → Continues certificate p n
      → Above certificate M q t m n s
  continue (service k) c = service (c.kind ∙ k)
  continue (subroutine a k) c = subroutine a (c.kind ∙ k)
  continue (inner o a k) c = inner o a (c.kind ∙ k)

  ret : {m : Mode} {p r : ℕ} {s : List ℕ} → Above certificate M q t m p (r ∷ s) → kind_at certificate p ≡ 4
      → Above certificate M q t m r s
  ret (service k) e = absurd (omega arith)
  ret (subroutine a k) e = a
  ret (inner o a k) e = absurd (omega arith)

  reti : {m : Mode} {p r : ℕ} {s : List ℕ} → Above certificate M q t m p (r ∷ s) → kind_at certificate p ≡ 3
      → Ended M q t by_reti m (mode_beneath m) r s ⊎ Stays certificate M q t by_reti m (mode_beneath m) r s
  reti (service k) e =
      inl (record { is_reti = refl; in_mode = refl; mode = refl; address = refl; levels = refl })
  reti (subroutine a k) e = absurd (omega arith)
  reti (inner o a k) e =
      let h = deep a in
      inr (record {
        above = rw (over_beneath o) at a;
        not_ended = λ _ same. omega (arith, over_depth o, ap open_services same);
      })

  other : {d : StackEffect} {m m' : Mode} {p' : ℕ} {s' : List ℕ} → d ≢ by_reti → Above certificate M q t m' p' s'
      → Ended M q t d m m' p' s' ⊎ Stays certificate M q t d m m' p' s'
  other n a = inr (record { above = a; not_ended = λ e. absurd (n e) })

  -- a move stays above the service, or ends it
  pub above_moved : {wired : ℕ} {d : StackEffect} {m m' : Mode} {p p' : ℕ} {s s' : List ℕ}
      → Moves certificate wired d m p s m' p' s' → Above certificate M q t m p s
      → Ended M q t d m m' p' s' ⊎ Stays certificate M q t d m m' p' s'
  above_moved moves.idles a = other (λ e. cc) a
  above_moved (moves.continues c) a = other (λ e. cc) (continue a c)
  above_moved (moves.calls c) a =
      other (λ e. cc) (subroutine (continue a c.back) c.target_kind)
  above_moved (moves.returns k) a = other (λ e. cc) (ret a k)
  above_moved (moves.leaves k) a = reti a k
  above_moved (moves.begins e) a = absurd (let h = deeper a in omega arith)
  above_moved (moves.takes h w) a =
      other (λ e. cc) (inner (over_taken h) a w.kind)

-- the flag pair of an interrupted mode is none of those used as deep as its service
apart : {M under : Mode} → Over M under → (m : Mode) → open_services M ≤ open_services m → pair_number m ≢ pair_number under
apart source_normal Reset h = omega arith
apart source_normal Normal h = omega arith
apart source_normal Interrupt h = omega arith
apart source_normal NmiOverNormal h = omega arith
apart source_normal NmiOverInterrupt h = omega arith
apart nmi_normal Reset h = omega arith
apart nmi_normal Normal h = omega arith
apart nmi_normal Interrupt h = omega arith
apart nmi_normal NmiOverNormal h = omega arith
apart nmi_normal NmiOverInterrupt h = omega arith
apart nmi_interrupt Reset h = omega arith
apart nmi_interrupt Normal h = omega arith
apart nmi_interrupt Interrupt h = omega arith
apart nmi_interrupt NmiOverNormal h = omega arith
apart nmi_interrupt NmiOverInterrupt h = omega arith

pub pairs_apart : {certificate : List ℕ} {M under : Mode} {q : ℕ} {t : List ℕ} {m : Mode} {p : ℕ} {s : List ℕ}
    → Over M under → Above certificate M q t m p s → pair_number m ≢ pair_number under
pairs_apart {m = m} o a = apart o m (deep a)

-- a service that a taken request begins
pub record Begun (certificate : List ℕ) (source : Source) (m m' : Mode) (p p' : ℕ) (s s' : List ℕ) : Type 0 where
  pub takes : Takes m source
  pub mode_set : m' ≡ service_mode source m
  pub above : Above certificate m' p s m' p' s'

pub begun : {certificate : List ℕ} {wired : ℕ} {source : Source} {d : StackEffect} {m m' : Mode} {p p' : ℕ}
    {s s' : List ℕ}
    → Moves certificate wired d m p s m' p' s' → d ≡ by_request source → Begun certificate source m m' p p' s s'
begun moves.idles e = cc
begun (moves.continues c) e = cc
begun (moves.calls c) e = cc
begun (moves.returns h) e = cc
begun (moves.leaves h) e = cc
begun (moves.begins h) e = cc
begun {source = source} (moves.takes {source = taken} h w) e =
    let same : taken ≡ source = cc in
    record { takes = rw same at h; mode_set = rw same refl; above = service w.kind }
