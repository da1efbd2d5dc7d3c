-- A step under an accepted certificate as a move of mode, PC and return addresses; every move keeps the frames.
-- Later theorems about steps go by these moves, and not by the step.
use Prim.Native.Nat.{ℕ, ◌+◌, ◌≤◌}
use native.Mathlib.Omega.{arith}
use mathlib.Core.Path.{◌≡◌, ◌∙◌}
use mathlib.Core.List.{List, [], ◌∷◌}
use Rattle.isa.specs.Sources.{vector_of}
use Rattle.isa.specs.declared.Source.{Source}
use Rattle.isa.specs.declared.Source.TheVariants.{Nmi, First, Second, Third, Fourth}
use Rattle.control.specs.declared.Mode.{Mode}
use Rattle.control.specs.declared.Mode.TheVariants.{Reset, Normal, Interrupt}
use Rattle.control.specs.Modes.{mode_beneath}
use Rattle.control.specs.Requests.{service_mode}
use Rattle.certificate.specs.Marks.{kind_at, need_at}
use Rattle.certificate.specs.Levels.{source_levels, levels_for}
use Rattle.certificate.specs.Rules.{Continues, Calls, EndsStartUp}
use Rattle.certificate.proofs.SourceLevels.{source_levels_lem}
use Rattle.bench.specs.StackEffect.{StackEffect, by_request, by_call, by_ret, by_reti, by_start_up, none}
use Rattle.bench.proofs.StackFrames.{bound, Over, source_normal, nmi_normal, nmi_interrupt, StackFrames}
use Rattle.bench.proofs.StackFrames.{start_up_lem, main, subroutine, service, within}

-- a source that a mode takes
pub data Takes : Mode → Source → Type 0 where
  nmi : Takes Normal Nmi
  first : Takes Normal First
  second : Takes Normal Second
  third : Takes Normal Third
  fourth : Takes Normal Fourth
  nested : Takes Interrupt Nmi

-- a wired source, as the certificate has it
pub record Wired (certificate : List ℕ) (wired : ℕ) (source : Source) : Type 0 where
  pub levels : levels_for certificate wired source ≡ 1 + need_at certificate (vector_of source)
  pub kind : kind_at certificate (vector_of source) ≡ 3

-- what a step can do to mode, PC and return addresses, each with what the certificate says there; the first index is
-- its effect on the stack
pub data Moves (certificate : List ℕ) (wired : ℕ) : StackEffect → Mode → ℕ → List ℕ → Mode → ℕ → List ℕ → Type 0 where
  idles : {m : Mode} {p : ℕ} {s : List ℕ} → Moves certificate wired none m p s m p s
  continues : {m : Mode} {p n : ℕ} {s : List ℕ} → Continues certificate p n → Moves certificate wired none m p s m n s
  calls : {m : Mode} {p t n : ℕ} {s : List ℕ} → Calls certificate p t n
      → Moves certificate wired by_call m p s m t (n ∷ s)
  returns : {m : Mode} {p r : ℕ} {s : List ℕ} → kind_at certificate p ≡ 4
      → Moves certificate wired by_ret m p (r ∷ s) m r s
  leaves : {m : Mode} {p r : ℕ} {s : List ℕ} → kind_at certificate p ≡ 3
      → Moves certificate wired by_reti m p (r ∷ s) (mode_beneath m) r s
  begins : {p n : ℕ} → EndsStartUp certificate p n → Moves certificate wired by_start_up Reset p [] Normal n []
  takes : {m : Mode} {source : Source} {p : ℕ} {s : List ℕ} → Takes m source → Wired certificate wired source
      → Moves certificate wired (by_request source) m p s (service_mode source m) (vector_of source) (p ∷ s)

-- each of the sources 1 to 4 takes at most what all of them take
pub record EachWithin (certificate : List ℕ) (wired : ℕ) : Type 0 where
  pub one : levels_for certificate wired First ≤ source_levels certificate wired
  pub two : levels_for certificate wired Second ≤ source_levels certificate wired
  pub three : levels_for certificate wired Third ≤ source_levels certificate wired
  pub four : levels_for certificate wired Fourth ≤ source_levels certificate wired

each_within : (certificate : List ℕ) (wired : ℕ) → EachWithin certificate wired
each_within certificate wired =
    record {
      one = rw source_levels_lem (omega arith);
      two = rw source_levels_lem (omega arith);
      three = rw source_levels_lem (omega arith);
      four = rw source_levels_lem (omega arith);
    }

module _ {certificate : List ℕ} {wired : ℕ} where
  continue : {m : Mode} {p n : ℕ} {s : List ℕ} → StackFrames certificate wired m p s → Continues certificate p n
      → StackFrames certificate wired m n s
  continue (start_up_lem k h) c = start_up_lem (c.kind ∙ k) (omega arith)
  continue (main k h) c = main (c.kind ∙ k) (omega arith)
  continue (subroutine f k h) c = subroutine f (c.kind ∙ k) (omega arith)
  continue (service o f k h) c = service o f (c.kind ∙ k) (omega arith)

  call : {m : Mode} {p t n : ℕ} {s : List ℕ} → StackFrames certificate wired m p s → Calls certificate p t n
      → StackFrames certificate wired m t (n ∷ s)
  call f c = let h = within f in subroutine (continue f c.back) c.target_kind (omega arith)

  return : {m : Mode} {p r : ℕ} {s : List ℕ} → StackFrames certificate wired m p (r ∷ s) → kind_at certificate p ≡ 4
      → StackFrames certificate wired m r s
  return (subroutine f k h) e = f
  return (service o f k h) e = absurd (omega arith)

  back : {m under : Mode} {q : ℕ} {s : List ℕ} → Over m under → StackFrames certificate wired under q s
      → StackFrames certificate wired (mode_beneath m) q s
  back source_normal f = f
  back nmi_normal f = f
  back nmi_interrupt f = f

  leave : {m : Mode} {p q : ℕ} {s : List ℕ} → StackFrames certificate wired m p (q ∷ s) → kind_at certificate p ≡ 3
      → StackFrames certificate wired (mode_beneath m) q s
  leave (subroutine f k h) e = absurd (omega arith)
  leave (service o f k h) e = back o f

  begin : {p n : ℕ} → StackFrames certificate wired Reset p [] → EndsStartUp certificate p n
      → StackFrames certificate wired Normal n []
  unfolding bound
  begin (start_up_lem k h) e = main e.next_kind (omega arith)

  take : {m : Mode} {source : Source} {p : ℕ} {s : List ℕ} → Takes m source → Wired certificate wired source
      → StackFrames certificate wired m p s
      → StackFrames certificate wired (service_mode source m) (vector_of source) (p ∷ s)
  unfolding bound
  take nmi w f = let h = within f in service nmi_normal f w.kind (omega arith)
  take first w f =
      let h = within f in service source_normal f w.kind (omega (arith, (each_within certificate wired).one))
  take second w f =
      let h = within f in service source_normal f w.kind (omega (arith, (each_within certificate wired).two))
  take third w f =
      let h = within f in service source_normal f w.kind (omega (arith, (each_within certificate wired).three))
  take fourth w f =
      let h = within f in service source_normal f w.kind (omega (arith, (each_within certificate wired).four))
  take nested w f = let h = within f in service nmi_interrupt f w.kind (omega arith)

  -- every move keeps the frames
  pub frames_kept : {d : StackEffect} {m m' : Mode} {p p' : ℕ} {s s' : List ℕ}
      → Moves certificate wired d m p s m' p' s'
      → StackFrames certificate wired m p s → StackFrames certificate wired m' p' s'
  frames_kept idles f = f
  frames_kept (continues c) f = continue f c
  frames_kept (calls c) f = call f c
  frames_kept (returns k) f = return f k
  frames_kept (leaves k) f = leave f k
  frames_kept (begins e) f = begin f e
  frames_kept (takes t w) f = take t w f
