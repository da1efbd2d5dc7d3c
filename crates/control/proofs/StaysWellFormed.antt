-- Control and stack stay well formed.
use Prim.Native.Nat.{ℕ, zero, suc, ◌+◌, ◌-◌, ◌<◌, ◌≤◌}
use mathlib.Core.Path.{◌≡◌, refl, sym}
use mathlib.Core.Bool.{Bool, true, false, cond, and-eq-true_iff}
use mathlib.Core.List.{List, [], ◌∷◌}
use native.Mathlib.Omega.{arith}
use lib.ListN.{length, get_or, set, take}
use Rattle.std.proofs.lemmas.List.{length-take-le, get_or-take}
use Rattle.std.specs.Prelude.{◌↔◌, IsTrue, EachIndex}
use lib.Dec.{ltb, leb, eqb}
use lib.Seq.{get_or-set_other}
use borrow.Author.Count.{below_more}
use borrow.Author.Tests.{leb-false, ltb-true, leb-true, eqb-false, le-leb, lt-ltb}
use Rattle.isa.specs.Targets.{InRange}
use Rattle.isa.specs.Sources.{vector_of}
use Rattle.isa.specs.declared.Source.{Source}
use Rattle.isa.specs.declared.Source.TheVariants.{Nmi, First, Second, Third, Fourth}
use Rattle.isa.specs.declared.Flow.{Flow}
use Rattle.isa.specs.declared.Flow.TheVariants as flow
use Rattle.control.specs.declared.Control.{Control}
use Rattle.control.specs.declared.Stop.TheVariants.{Full, Empty}
use Rattle.control.specs.Update.{with_pc, with_levels, with_mode}
use Rattle.control.specs.Modes.{mode_beneath}
use Rattle.control.specs.Stack.{goes_on, stops, is_full, push_of, pop_of}
use Rattle.control.specs.Transfers.{
  slept_of,
  branch_of,
  then_in,
  call_of,
  ends_start_up,
  return_from_interrupt_of,
  advance_of,
}
use Rattle.control.specs.Requests.{serving_of, take_of}
use Rattle.control.specs.WellFormed.{addresses_fit, well_formed, Formed, FormedExactly, FormedAfter, StaysFormed}

addresses_below : (stack : List ℕ) (n : ℕ) → addresses_fit stack n ≡ true → (k : ℕ) → k < n → get_or stack k 0 < 0x1000
unfolding addresses_fit
addresses_below stack zero e k h = absurd (omega arith)
addresses_below stack (suc n) e k h =
    let p = (and-eq-true_iff (ltb (get_or stack n 0) 0x1000) (addresses_fit stack n)).0 e in
    below_more (λ j. get_or stack j 0 < 0x1000) n (addresses_below stack n p.1)
    (ltb-true (get_or stack n 0) 0x1000 p.0) k (omega arith)

below_addresses : (stack : List ℕ) (n : ℕ) → ((k : ℕ) → k < n → get_or stack k 0 < 0x1000) → addresses_fit stack n ≡ true
unfolding addresses_fit
below_addresses stack zero all = refl
below_addresses stack (suc n) all =
    rw (lt-ltb (get_or stack n 0) 0x1000 (all n (omega arith))) (below_addresses stack n (λ k h. all k (omega arith)))

-- the test of the first n addresses, looked at as a list of their own
pub fit_as_list :
    (stack : List ℕ) (n : ℕ) → n ≤ length stack → (b : Bool) →
    (IsTrue b ↔ EachIndex (take n stack) (λ k. get_or (take n stack) k 0 < 0x1000)) →
    b ≡ addresses_fit stack n
fit_as_list stack n h true all =
    sym (below_addresses stack n
    (λ k l. rw (← get_or-take n stack k 0 l) (all.0 refl k (rw (length-take-le n stack h) l))))
fit_as_list stack n h false all = by_test (addresses_fit stack n) refl
  where
    by_test : (t : Bool) → addresses_fit stack n ≡ t → false ≡ t
    by_test false e = refl
    by_test true e =
        let in_list : (k : ℕ) → k < length (take n stack) → k < n = λ k l. rw (← length-take-le n stack h) l in
        all.1 (λ k l. rw (get_or-take n stack k 0 (in_list k l)) (addresses_below stack n e k (in_list k l)))

pub formed_exactly : FormedExactly
unfolding well_formed
formed_exactly = record {
  facts = λ stack c e.
      let p = (and-eq-true_iff (ltb c.pc 0x1000) _).0 e in
      let q = (and-eq-true_iff (leb c.levels 6) _).0 p.1 in
      record {
        pc = ltb-true c.pc 0x1000 p.0;
        levels = leb-true c.levels 6 q.0;
        addresses = addresses_below stack c.levels q.1;
      };
  test = λ stack c f.
      rw (lt-ltb c.pc 0x1000 f.pc, le-leb c.levels 6 f.levels)
      (below_addresses stack c.levels f.addresses);
}

-- the slot that was stored to, whatever the list's length
stored_below : (l : List ℕ) (n a : ℕ) → a < 0x1000 → get_or (set l n a) n 0 < 0x1000
stored_below [] n a h = omega arith
stored_below (x ∷ l) zero a h = h
stored_below (x ∷ l) (suc n) a h = stored_below l n a h

-- only PC and levels matter
elsewhere : (stack : List ℕ) (c d : Control) → Formed stack c → d.pc < 0x1000 → d.levels ≡ c.levels → Formed stack d
elsewhere stack c d f h e = record { pc = h; levels = rw e f.levels; addresses = rw e f.addresses }

module _ (stack : List ℕ) (c : Control) (formed : Formed stack c) where
  pushed :
      (address : ℕ) → address < 0x1000 → (b : Bool) → is_full c ≡ b →
      FormedAfter
      (cond b (stops stack c Full) (goes_on (set stack c.levels address) (with_levels c (c.levels + 1))))
  pushed address h true e = formed
  pushed address h false e =
      let room : c.levels < 6 = leb-false 6 c.levels e in
      record {
        pc = formed.pc;
        levels = omega arith;
        addresses = below_more (λ j. get_or (set stack c.levels address) j 0 < 0x1000) c.levels
            (λ k h.
            rw (get_or-set_other stack c.levels k address 0 (λ (q : k ≡ c.levels). omega arith))
            (formed.addresses k h))
            (stored_below stack c.levels address h);
      }

  popped :
      (b : Bool) → eqb c.levels 0 ≡ b →
      FormedAfter
      (cond b (stops stack c Empty)
      (goes_on stack (with_levels (with_pc c (get_or stack (c.levels - 1) 0)) (c.levels - 1))))
  popped true e = formed
  popped false e =
      let some : c.levels ≡ 0 → ⊥ = eqb-false c.levels 0 e in
      record {
        pc = formed.addresses (c.levels - 1) (omega arith);
        levels = omega (arith, formed.levels);
        addresses = λ k h. formed.addresses k (omega arith);
      }

  returned :
      (next : ℕ) → next < 0x1000 → (b : Bool) →
      FormedAfter
      (cond b (goes_on stack (with_mode (with_pc c next) (mode_beneath c.mode)))
      (then_in (pop_of stack c) (mode_beneath c.mode)))
  unfolding pop_of
  returned next h true = elsewhere stack c _ formed h refl
  returned next h false =
      let p : FormedAfter (pop_of stack c) = popped (eqb c.levels 0) refl in
      elsewhere _ (pop_of stack c).control _ p p.pc refl

  branched : (to next : ℕ) → to < 0x1000 → next < 0x1000 → (b : Bool) → Formed stack (branch_of c b to next)
  branched to next ht hn true = elsewhere stack c _ formed ht refl
  branched to next ht hn false = elsewhere stack c _ formed hn refl

  by_flow :
      (f : Flow) → InRange f → (jumps : Bool) (next : ℕ) → next < 0x1000 →
      FormedAfter (advance_of stack c f jumps next)
  unfolding advance_of call_of push_of pop_of return_from_interrupt_of slept_of
  by_flow flow.Next r jumps next h = elsewhere stack c _ formed h refl
  by_flow (flow.Jump to) r jumps next h = elsewhere stack c _ formed r refl
  by_flow (flow.Branch condition to) r jumps next h = branched to next r h jumps
  by_flow (flow.Call to) r jumps next h =
      elsewhere _ (push_of stack c next).control _ (pushed next h (is_full c) refl) r refl
  by_flow flow.Return r jumps next h = popped (eqb c.levels 0) refl
  by_flow flow.ReturnFromInterrupt r jumps next h = returned next h (ends_start_up c)
  by_flow flow.Sleep r jumps next h = elsewhere stack c _ formed h refl

  below : (s : Source) → vector_of s < 0x1000
  below Nmi = omega arith
  below First = omega arith
  below Second = omega arith
  below Third = omega arith
  below Fourth = omega arith

  by_request : (s : Source) → FormedAfter (take_of stack c s)
  unfolding take_of serving_of push_of
  by_request s =
      elsewhere _ (push_of stack c c.pc).control _ (pushed c.pc formed.pc (is_full c) refl) (below s) refl

pub stays_formed : StaysFormed
stays_formed = record { by_flow = by_flow; by_request = by_request }
