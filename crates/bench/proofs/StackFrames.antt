-- The frames of a machine under an accepted certificate: where it executes, and its return addresses, each with the
-- code that it goes back to. This is the invariant of demand 3.
use Prim.Native.Nat.{ℕ, ◌+◌, ◌≤◌}
use native.Mathlib.Omega.{arith}
use mathlib.Core.Path.{◌≡◌}
use mathlib.Core.List.{List, [], ◌∷◌}
use lib.ListN.{length}
use Rattle.isa.specs.Sources.{reset_vector}
use Rattle.isa.specs.declared.Source.TheVariants.{Nmi}
use Rattle.control.specs.declared.Mode.{Mode}
use Rattle.control.specs.declared.Mode.TheVariants.{Reset, Normal, Interrupt, NmiOverNormal, NmiOverInterrupt}
use Rattle.certificate.specs.Marks.{kind_at, need_at}
use Rattle.certificate.specs.Levels.{source_levels, levels_for, levels_of}

-- the levels that a mode may use
unfoldable pub bound : (certificate : List ℕ) → (wired : ℕ) → Mode → ℕ
bound certificate wired Reset = need_at certificate reset_vector
bound certificate wired Normal = need_at certificate reset_vector
bound certificate wired Interrupt = need_at certificate reset_vector + source_levels certificate wired
bound certificate wired NmiOverNormal = need_at certificate reset_vector + levels_for certificate wired Nmi
bound certificate wired NmiOverInterrupt =
    need_at certificate reset_vector + source_levels certificate wired + levels_for certificate wired Nmi

bound_most : (certificate : List ℕ) (wired : ℕ) (m : Mode) → bound certificate wired m ≤ levels_of certificate wired
unfolding bound levels_of
bound_most certificate wired Reset = omega arith
bound_most certificate wired Normal = omega arith
bound_most certificate wired Interrupt = omega arith
bound_most certificate wired NmiOverNormal = omega arith
bound_most certificate wired NmiOverInterrupt = omega arith

-- a service's mode, and the mode that it interrupted
pub data Over : Mode → Mode → Type 0 where
  source_normal : Over Interrupt Normal
  nmi_normal : Over NmiOverNormal Normal
  nmi_interrupt : Over NmiOverInterrupt Interrupt

-- Executing at p in a mode, with the return addresses s, the top first: start_up or main code with none; a subroutine,
-- above frames of the same mode; or a service, above frames of the mode that it interrupted.
pub data StackFrames (certificate : List ℕ) (wired : ℕ) : Mode → ℕ → List ℕ → Type 0 where
  start_up_lem : {p : ℕ} → kind_at certificate p ≡ 1 → need_at certificate p ≤ bound certificate wired Reset
      → StackFrames certificate wired Reset p []
  main : {p : ℕ} → kind_at certificate p ≡ 2 → need_at certificate p ≤ bound certificate wired Normal
      → StackFrames certificate wired Normal p []
  subroutine : {m : Mode} {p r : ℕ} {s : List ℕ} → StackFrames certificate wired m r s
      → kind_at certificate p ≡ 4 → need_at certificate p + length (r ∷ s) ≤ bound certificate wired m
      → StackFrames certificate wired m p (r ∷ s)
  service : {m under : Mode} {p q : ℕ} {s : List ℕ} → Over m under → StackFrames certificate wired under q s
      → kind_at certificate p ≡ 3 → need_at certificate p + length (q ∷ s) ≤ bound certificate wired m
      → StackFrames certificate wired m p (q ∷ s)

-- reset mode with no return address
abbrev pub AtStart : Mode → List ℕ → Type 0
AtStart Reset [] = Unit {0}
AtStart Reset (r ∷ s) = ⊥
AtStart Normal s = ⊥
AtStart Interrupt s = ⊥
AtStart NmiOverNormal s = ⊥
AtStart NmiOverInterrupt s = ⊥

module _ {certificate : List ℕ} {wired : ℕ} where
  -- the need at PC is still free
  pub within : {m : Mode} {p : ℕ} {s : List ℕ} → StackFrames certificate wired m p s
      → need_at certificate p + length s ≤ bound certificate wired m
  within (start_up_lem k h) = omega arith
  within (main k h) = omega arith
  within (subroutine f k h) = h
  within (service o f k h) = h

  -- the levels in use are at most the certificate's number
  pub within_number : {m : Mode} {p : ℕ} {s : List ℕ} → StackFrames certificate wired m p s
      → length s ≤ levels_of certificate wired
  within_number {m} f = let h = within f in let b = bound_most certificate wired m in omega arith

  -- PC is at a marked address
  pub has_kind_lem : {m : Mode} {p : ℕ} {s : List ℕ} → StackFrames certificate wired m p s → 1 ≤ kind_at certificate p
  has_kind_lem (start_up_lem k h) = omega arith
  has_kind_lem (main k h) = omega arith
  has_kind_lem (subroutine f k h) = omega arith
  has_kind_lem (service o f k h) = omega arith

  -- just reset
  pub at_reset : kind_at certificate reset_vector ≡ 1 → StackFrames certificate wired Reset reset_vector []
  unfolding bound
  at_reset k = start_up_lem k (omega arith)

  -- where RET stands, and RETI of a service, there is a return address
  pub ret_empty : {m : Mode} {p : ℕ} → StackFrames certificate wired m p [] → kind_at certificate p ≡ 4 → ⊥
  ret_empty (start_up_lem k h) e = omega arith
  ret_empty (main k h) e = omega arith

  pub reti_empty : {m : Mode} {p : ℕ} → StackFrames certificate wired m p [] → kind_at certificate p ≡ 3 → ⊥
  reti_empty (start_up_lem k h) e = omega arith
  reti_empty (main k h) e = omega arith

  -- start_up code runs in reset mode with none
  pub at_start : {m : Mode} {p : ℕ} {s : List ℕ} → StackFrames certificate wired m p s → kind_at certificate p ≡ 1
      → AtStart m s
  at_start (start_up_lem k h) e = tt
  at_start (main k h) e = absurd (omega arith)
  at_start (subroutine f k h) e = absurd (omega arith)
  at_start (service o f k h) e = absurd (omega arith)
