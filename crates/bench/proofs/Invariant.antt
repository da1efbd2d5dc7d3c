-- Control, a stack and a machine with frames: the invariant of a session, and what follows of levels and
-- well-formedness.
use Prim.Native.Nat.{ℕ, zero, suc, ◌≤◌, ◌<◌}
use native.Mathlib.Omega.{arith}
use mathlib.Core.Path.{◌≡◌, refl}
use mathlib.Core.Bool.{true}
use mathlib.Core.List.{List, [], ◌∷◌}
use lib.ListN.{length, get_or}
use borrow.Author.Tests.{lt-ltb, le-leb}
use Rattle.control.specs.declared.Mode.{Mode}
use Rattle.control.specs.declared.Control.{Control}
use Rattle.control.specs.Stack.{in_use}
use Rattle.control.specs.WellFormed.{addresses_fit, well_formed}
use Rattle.machine.specs.declared.Machine.{Machine}
use Rattle.machine.specs.State.{is_well_formed, reset_of}
use Rattle.certificate.specs.Rules.{Rules}
use Rattle.bench.specs.Session.{levels_in_use}
use Rattle.bench.proofs.Stack.{length_in_use}
use Rattle.bench.proofs.Marks.{below}
use Rattle.bench.proofs.StackFrames.{StackFrames, start_up_lem, main, subroutine, service, within_number, has_kind_lem}
use Rattle.bench.proofs.StackFrames.{at_reset}

-- six slots, and frames of the return addresses in use
pub record Invariant (certificate : List ℕ) (wired : ℕ) (slots : List ℕ) (c : Control) : Type 0 where
  pub six : length slots ≡ 6
  pub frames : StackFrames certificate wired c.mode c.pc (in_use c.levels slots)

abbrev pub MachineInvariant : (certificate : List ℕ) → (wired : ℕ) → Machine → Type 0
MachineInvariant certificate wired m = Invariant certificate wired m.stack m.control

-- all addresses of a list are program addresses
abbrev Below : List ℕ → Type 0
Below [] = Unit {0}
Below (a ∷ addresses) = (a < 0x1000) × Below addresses

-- since each return address has a kind
all_below : {certificate : List ℕ} {wired : ℕ} {m : Mode} {p : ℕ} {s : List ℕ} → StackFrames certificate wired m p s
    → Below s
all_below (start_up_lem k h) = tt
all_below (main k h) = tt
all_below {certificate} (subroutine {r = r} f k h) = (below certificate r (has_kind_lem f), all_below f)
all_below {certificate} (service {q = q} o f k h) = (below certificate q (has_kind_lem f), all_below f)

addresses_fit_lem : (n : ℕ) (slots : List ℕ) → Below (in_use n slots) → addresses_fit slots n ≡ true
unfolding addresses_fit
addresses_fit_lem zero slots b = refl
addresses_fit_lem (suc n) slots b = rw (lt-ltb (get_or slots n 0) 0x1000 b.0) (addresses_fit_lem n slots b.1)

module _ (image certificate : List ℕ) (wired number : ℕ) (ok : Rules image certificate wired number) where
  pub reset_invariant : (m : Machine) → MachineInvariant certificate wired (reset_of m)
  unfolding reset_of
  reset_invariant m = record { six = refl; frames = at_reset ok.start_up }

  pub levels_within : (m : Machine) → MachineInvariant certificate wired m → levels_in_use m ≤ number
  unfolding levels_in_use
  levels_within m g = let h = within_number g.frames in omega (arith, ok.counted)

  -- so refusal 2 is never given
  pub well_formed_lem : (m : Machine) → MachineInvariant certificate wired m → is_well_formed m ≡ true
  unfolding well_formed levels_in_use
  well_formed_lem m g =
      let six : m.control.levels ≤ 6 =
      omega (arith, levels_within m g, length_in_use m.control.levels m.stack, ok.at_most_six) in
      rw (
        lt-ltb m.control.pc 0x1000 (below certificate m.control.pc (has_kind_lem g.frames)),
        le-leb m.control.levels 6 six,
      )
      (addresses_fit_lem m.control.levels m.stack (all_below g.frames))
