-- Nothing looks at the bytes under the ROM window, and nothing changes them.
use Prim.Native.Nat.{ℕ, zero, suc}
use mathlib.Core.Path.{◌≡◌, refl, sym, subst, ap, ◌∙◌}
use mathlib.Core.Bool.{Bool, true, false, not}
use mathlib.Core.List.{List}
use lib.Dec.{leb}
use lib.ListN.{length, get_or, set}
use Rattle.alu.specs.declared.Flags.{Flags}
use Rattle.isa.specs.Refusals.{plain, Answer, Ended, done, refused, unless}
use Rattle.isa.specs.Rom.{is_image}
use Rattle.isa.specs.Displacement.{forward_of}
use Rattle.isa.specs.ControlFlow.{flow_of}
use Rattle.isa.specs.declared.Instruction.{Instruction}
use Rattle.isa.specs.declared.Operand.{Operand}
use Rattle.std.specs.Prelude.{Option, Some, None}
use Rattle.data.specs.Space.{program_of, in_window, address_of, operand_of}
use Rattle.data.specs.Effect.{Data, accumulator_of, effect_of}
use Rattle.data.specs.Reads.{operand_read_of}
use Rattle.data.specs.UnderWindow.{SameButUnder, SameUnder}
use Rattle.data.proofs.UnderWindow.{
  same_bytes,
  same_program,
  same_address,
  same_read,
  same_operand,
  same_origin,
  same_origin_read,
  same_set,
  same_store,
  kept_by_set,
  kept_by_store,
}
use Rattle.control.specs.declared.Stop.{Stop}
use Rattle.control.specs.Stack.{Transferred}
use Rattle.control.specs.Requests.{take_of}
use Rattle.control.specs.Transfers.{advance_of}
use Rattle.machine.specs.declared.Machine.{Machine}
use Rattle.machine.specs.Pairs.{with_pair_of}
use Rattle.machine.specs.Execute.{jumps_of, execute_of}
use Rattle.machine.specs.State.{view_of, is_well_formed, with_byte, host_stored, host_store_of, reset_of}
use Rattle.machine.specs.Actions.{StepAction, takes, idles, executes, refuses, due_of, action_of}
use Rattle.machine.specs.Advance.{
  Step,
  stopped_of,
  taken_by,
  taken_of,
  completed_of,
  executed_of,
  acted_of,
}
use Rattle.machine.specs.Step.{step_of}
use Rattle.machine.specs.Steps.{Reported, Run, joined_by, continued_by, steps_of, requests_fit}
use Rattle.machine.specs.Run.{refused_run, run_of}
use Rattle.machine.specs.Reading.{reading_of}
use Rattle.machine.specs.Operands.{action_read, step_read_of}
use Rattle.machine.specs.OriginTold.{Storing, nothing, byte, stored_by, StepsAlike}
use Rattle.machine.specs.UnderWindow.{
  AlikeButUnder,
  SteppedAlike,
  RanAlike,
  StoredAlike,
  KeptUnder,
  NeverLookedAt,
  NeverChanged,
}
use Rattle.machine.proofs.ReadForms.{Change, changed, read_form, made_of, made_apart}

pub alike_itself : (m : Machine) → AlikeButUnder m m
alike_itself m = record { control = refl; stack = refl; flags = refl; bytes = same_bytes m.bytes }

-- what an instruction stores is stored alike, and not under the window
stored_alike :
    (b b' : List ℕ) → SameButUnder b b' → (x : Storing) → SameButUnder (stored_by x b) (stored_by x b')
stored_alike b b' same nothing = same
stored_alike b b' same (byte a value) = same_store b b' same a value

stored_kept : (b : List ℕ) (x : Storing) → SameUnder b (stored_by x b)
stored_kept b nothing k e = refl
stored_kept b (byte a value) k e = kept_by_store b a value k e

-- an instruction makes one change of two such views of data, and jumps in both or in neither
record OneChange (image : List ℕ) (d d' : Data) (i : Instruction) : Type 0 where
  change : Change
  effect : effect_of image d i ≡ changed d change
  effect' : effect_of image d' i ≡ changed d' change
  jumps : (pc : ℕ) → jumps_of image d (flow_of i pc) ≡ jumps_of image d' (flow_of i pc)

module _ (image : List ℕ) (d d' : Data) (flags : d.flags ≡ d'.flags) (same : SameButUnder d.bytes d'.bytes)
    (i : Instruction) where
  by_operand : (r : Option Operand) → operand_read_of i ≡ r → OneChange image d d' i
  by_operand (Some o) e =
      let made = made_of i o (read_form i o e) in
      let operand = same_operand d.bytes d'.bytes same image o in
      record {
        change =
            made.change_of (accumulator_of d.bytes) (operand_of image d.bytes o) (address_of d.bytes o)
            d.flags;
        effect = made.effect_is image d;
        effect' =
            rw (
              same.elsewhere 0xFF refl,
              operand,
              same_address d.bytes d'.bytes same o,
              flags,
            )
            (made.effect_is image d');
        jumps = λ pc. made.jumps_is image d pc ∙ ap made.jumps operand ∙ sym (made.jumps_is image d' pc);
      }
  by_operand None e =
      let made = made_apart i e in
      record {
        change =
            made.change_of (accumulator_of d.bytes) (get_or d.bytes 0x80 0) (get_or d.bytes 0x81 0) d.flags;
        effect = made.effect_is image d;
        effect' =
            rw (same.elsewhere 0xFF refl, same.elsewhere 0x80 refl, same.elsewhere 0x81 refl, flags)
            (made.effect_is image d');
        jumps = λ pc. made.jumps_is image d pc ∙ ap made.jumps flags ∙ sym (made.jumps_is image d' pc);
      }

  one_change : OneChange image d d' i
  one_change = by_operand (operand_read_of i) refl

module _ (m m' : Machine) (same : AlikeButUnder m m') where
  -- the same action is due
  same_action : (image : List ℕ) (request : ℕ) → action_of image m request ≡ action_of image m' request
  unfolding action_of due_of
  same_action image request =
      rw (
        same.control,
        same.stack,
        same.bytes.elsewhere 0xC8 refl,
        same.bytes.elsewhere 0xCA refl,
      )

  well_formed_lem : is_well_formed m ≡ is_well_formed m'
  well_formed_lem = rw (same.control, same.stack)

  -- and comes to the same
  unmoved :
      (a a' : Answer ℕ) → a ≡ a' →
      StepsAlike m m' (record { machine = m; answer = a }) (record { machine = m'; answer = a' })
  unmoved a a' e = record {
    answer = e;
    control = same.control;
    stack = same.stack;
    flags = same.flags;
    stores = nothing;
    first = refl;
    second = refl;
  }

  unless_stopped :
      (x : Option Stop) (s s' : Step) → StepsAlike m m' s s' → StepsAlike m m' (stopped_of m x s) (stopped_of m' x s')
  unless_stopped None s s' h = h
  unless_stopped (Some stop) s s' h = unmoved _ _ (rw same.control)

  module _ (image : List ℕ) where
    abbrev transfer_of : Machine → Instruction → (bytes : ℕ) → Transferred
    transfer_of n i bytes =
        advance_of n.stack n.control (flow_of i n.control.pc)
        (jumps_of image (view_of n) (flow_of i n.control.pc)) (forward_of n.control.pc bytes)

    transferred :
        (i : Instruction) (bytes : ℕ) → jumps_of image (view_of m) (flow_of i m.control.pc)
        ≡ jumps_of image (view_of m') (flow_of i m.control.pc) → transfer_of m i bytes ≡ transfer_of m' i bytes
    transferred i bytes jumps = rw (jumps, same.control, same.stack)

    pairs_after :
        (f : Flags) → with_pair_of m.flags m.control.mode f ≡ with_pair_of m'.flags m'.control.mode f
    pairs_after f = rw (same.control, same.flags)

    acted : (a : StepAction) → StepsAlike m m' (acted_of image m a) (acted_of image m' a)
    unfolding acted_of taken_of taken_by executed_of completed_of execute_of
    acted (takes source) =
        let taken : take_of m.stack m.control source ≡ take_of m'.stack m'.control source =
        rw (same.control, same.stack) in
        rw taken
        (unless_stopped (take_of m'.stack m'.control source).stop _ _
        (record {
          answer = refl;
          control = refl;
          stack = refl;
          flags = same.flags;
          stores = nothing;
          first = refl;
          second = refl;
        }))
    acted idles = unmoved _ _ refl
    acted (executes i bytes cycles) =
        let x = one_change image (view_of m) (view_of m') (rw (same.control, same.flags)) same.bytes i in
        rw (x.effect, x.effect', transferred i bytes (x.jumps m.control.pc))
        (unless_stopped (transfer_of m' i bytes).stop _ _
        (record {
          answer = refl;
          control = refl;
          stack = refl;
          flags = pairs_after x.change.flags;
          stores = x.change.stores;
          first = refl;
          second = refl;
        }))
    acted (refuses r) = unmoved _ _ refl

  steps_alike :
      (image : List ℕ) (request : ℕ) → StepsAlike m m' (step_of image m request) (step_of image m' request)
  unfolding step_of
  steps_alike image request =
      rw (same_action image request, same_program m.bytes m'.bytes same.bytes image)
      (acted (program_of image m'.bytes) (action_of image m' request))

  stepped_alike : (image : List ℕ) (request : ℕ) → SteppedAlike (step_of image m request) (step_of image m' request)
  stepped_alike image request =
      let x = steps_alike image request in
      record {
        answer = x.answer;
        machine = record {
          control = x.control;
          stack = x.stack;
          flags = x.flags;
          bytes = rw (x.first, x.second) (stored_alike m.bytes m'.bytes same.bytes x.stores);
        };
      }

  read_alike :
      (image : List ℕ) (a : StepAction) → action_read image m.bytes a ≡ action_read image m'.bytes a
  read_alike image (takes source) = refl
  read_alike image idles = refl
  read_alike image (executes i bytes cycles) = same_origin_read m.bytes m'.bytes same.bytes image i
  read_alike image (refuses r) = refl

  told_alike : (image : List ℕ) (request : ℕ) → step_read_of image m request ≡ step_read_of image m' request
  unfolding step_read_of
  told_alike image request =
      rw (
        (steps_alike image request).answer,
        same_action image request,
        same_program m.bytes m'.bytes same.bytes image,
        read_alike (program_of image m'.bytes) (action_of image m' request),
      )

  reading_alike : (image : List ℕ) (a : ℕ) → reading_of image m a ≡ reading_of image m' a
  unfolding reading_of
  reading_alike image a =
      rw (
        same.control,
        same.stack,
        same_program m.bytes m'.bytes same.bytes image,
        same_read m.bytes m'.bytes same.bytes (program_of image m'.bytes) a,
        same_origin m.bytes m'.bytes same.bytes (program_of image m'.bytes) a,
      )

  reset_alike : AlikeButUnder (reset_of m) (reset_of m')
  unfolding reset_of
  reset_alike = record {
    control = refl;
    stack = refl;
    flags = refl;
    bytes =
        same_set _ _ (same_set _ _ (same_set m.bytes m'.bytes same.bytes 0xC8 0) 0xC9 0) 0xCA 0;
  }

  module _ (a value : ℕ) where
    by_tests :
        (w under : Bool) →
        StoredAlike
        (unless w (host_stored m (refused (plain 2)))
        (unless (not under) (host_stored m (refused (plain 10))) (host_stored (with_byte m a value) (done tt))))
        (unless w (host_stored m' (refused (plain 2)))
        (unless (not under) (host_stored m' (refused (plain 10))) (host_stored (with_byte m' a value) (done tt))))
    by_tests false under = record { ending = refl; machine = same }
    by_tests true true = record { ending = refl; machine = same }
    by_tests true false = record {
      ending = refl;
      machine = record {
        control = same.control;
        stack = same.stack;
        flags = same.flags;
        bytes = same_store m.bytes m'.bytes same.bytes a value;
      };
    }

    store_alike : StoredAlike (host_store_of m a value) (host_store_of m' a value)
    unfolding host_store_of
    store_alike = rw well_formed_lem (by_tests (is_well_formed m') (in_window a))

-- a run goes on alike
joined_alike :
    (r r' : Run) (n n' : Machine) → r.report ≡ r'.report → AlikeButUnder n n' → (a : Answer ℕ) →
    RanAlike (joined_by r n a) (joined_by r' n' a)
joined_alike r r' n n' report same (done cycles) = record { report = rw report; machine = same }
joined_alike r r' n n' report same (refused why) = record { report = rw report; machine = same }

module _ (image : List ℕ) where
  continued_alike :
      (r r' : Run) (request : ℕ) → RanAlike r r' → (e : Ended) →
      RanAlike (continued_by image r request e) (continued_by image r' request e)
  continued_alike r r' request h (done tt) =
      let s = stepped_alike r.machine r'.machine h.machine image request in
      rw s.answer (joined_alike r r' _ _ h.report s.machine (step_of image r'.machine request).answer)
  continued_alike r r' request h (refused why) = h

  module _ (requests : List ℕ) where
    many_alike :
        (m m' : Machine) → AlikeButUnder m m' → (n : ℕ) →
        RanAlike (steps_of image requests m n) (steps_of image requests m' n)
    unfolding steps_of
    many_alike m m' same zero = record { report = refl; machine = same }
    many_alike m m' same (suc n) =
        let r = steps_of image requests m n in
        let r' = steps_of image requests m' n in
        let h = many_alike m m' same n in
        subst
        (λ (e : Ended). RanAlike (continued_by image r (get_or requests n 0) r.report.ending)
        (continued_by image r' (get_or requests n 0) e))
        (ap (λ (x : Reported). x.ending) h.report)
        (continued_alike r r' (get_or requests n 0) h r.report.ending)

    module _ (m m' : Machine) (same : AlikeButUnder m m') (n : ℕ) where
      by_run_tests :
          (i w few fit : Bool) →
          RanAlike
          (unless i (refused_run m (plain 1))
          (unless w (refused_run m (plain 2))
          (unless few (refused_run m (plain 12))
          (unless fit (refused_run m (plain 11)) (steps_of image requests m n)))))
          (unless i (refused_run m' (plain 1))
          (unless w (refused_run m' (plain 2))
          (unless few (refused_run m' (plain 12))
          (unless fit (refused_run m' (plain 11)) (steps_of image requests m' n)))))
      by_run_tests false w few fit = record { report = refl; machine = same }
      by_run_tests true false few fit = record { report = refl; machine = same }
      by_run_tests true true false fit = record { report = refl; machine = same }
      by_run_tests true true true false = record { report = refl; machine = same }
      by_run_tests true true true true = many_alike m m' same n

      ran_alike : RanAlike (run_of image m requests n) (run_of image m' requests n)
      unfolding run_of
      ran_alike =
          rw (well_formed_lem m m' same)
          (by_run_tests (is_image (length image)) (is_well_formed m') (leb n 65535) (requests_fit requests n))

pub never_looked_at : NeverLookedAt
never_looked_at = record {
  by_step = λ image m m' request same. stepped_alike m m' same image request;
  by_telling = λ image m m' request same. told_alike m m' same image request;
  by_run = λ image m m' requests n same. ran_alike image requests m m' same n;
  by_store = λ m m' a value same. store_alike m m' same a value;
  by_reading = λ image m m' a same. reading_alike m m' same image a;
  by_reset = reset_alike;
}

-- what a step stores, by what it stores from a machine that agrees: itself
step_keeps : (image : List ℕ) (m : Machine) (request : ℕ) → KeptUnder m (step_of image m request).machine
step_keeps image m request =
    let x = steps_alike m m (alike_itself m) image request in rw x.first (stored_kept m.bytes x.stores)

module _ (image : List ℕ) (m : Machine) where
  joined_keeps : (r : Run) (n : Machine) → KeptUnder m n → (a : Answer ℕ) → KeptUnder m (joined_by r n a).machine
  joined_keeps r n h (done cycles) = h
  joined_keeps r n h (refused why) = h

  continued_keeps :
      (r : Run) (request : ℕ) → KeptUnder m r.machine → (e : Ended) →
      KeptUnder m (continued_by image r request e).machine
  continued_keeps r request h (done tt) =
      let s = step_of image r.machine request in
      joined_keeps r s.machine (λ k e. h k e ∙ step_keeps image r.machine request k e) s.answer
  continued_keeps r request h (refused why) = h

  many_keep : (requests : List ℕ) (n : ℕ) → KeptUnder m (steps_of image requests m n).machine
  unfolding steps_of
  many_keep requests zero = λ k e. refl
  many_keep requests (suc n) =
      continued_keeps (steps_of image requests m n) (get_or requests n 0) (many_keep requests n)
      (steps_of image requests m n).report.ending

  by_keep_tests :
      (requests : List ℕ) (n : ℕ) (i w few fit : Bool) →
      KeptUnder m
      (unless i (refused_run m (plain 1))
      (unless w (refused_run m (plain 2))
      (unless few (refused_run m (plain 12))
      (unless fit (refused_run m (plain 11)) (steps_of image requests m n))))).machine
  by_keep_tests requests n false w few fit k e = refl
  by_keep_tests requests n true false few fit k e = refl
  by_keep_tests requests n true true false fit k e = refl
  by_keep_tests requests n true true true false k e = refl
  by_keep_tests requests n true true true true k e = many_keep requests n k e

  run_keeps : (requests : List ℕ) (n : ℕ) → KeptUnder m (run_of image m requests n).machine
  unfolding run_of
  run_keeps requests n =
      by_keep_tests requests n (is_image (length image)) (is_well_formed m) (leb n 65535) (requests_fit requests n)

store_keeps : (m : Machine) (a value : ℕ) → KeptUnder m (host_store_of m a value).machine
unfolding host_store_of
store_keeps m a value = by_tests (is_well_formed m) (in_window a)
  where
    by_tests :
        (w under : Bool) →
        KeptUnder m
        (unless w (host_stored m (refused (plain 2)))
        (unless (not under) (host_stored m (refused (plain 10))) (host_stored (with_byte m a value) (done tt)))).machine
    by_tests false under k e = refl
    by_tests true true k e = refl
    by_tests true false k e = kept_by_store m.bytes a value k e

reset_keeps : (m : Machine) → KeptUnder m (reset_of m)
unfolding reset_of
reset_keeps m k e =
    kept_by_set m.bytes 0xC8 0 refl k e ∙ kept_by_set (set m.bytes 0xC8 0) 0xC9 0 refl k e
    ∙ kept_by_set (set (set m.bytes 0xC8 0) 0xC9 0) 0xCA 0 refl k e

pub never_changed : NeverChanged
never_changed = record {
  by_step = step_keeps;
  by_run = λ image m requests n. run_keeps image m requests n;
  by_store = store_keeps;
  by_reset = reset_keeps;
}
