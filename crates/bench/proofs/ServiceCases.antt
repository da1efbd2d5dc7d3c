-- Services from the taking to their RETI, computed.
use Prim.Native.Nat.{ℕ, zero, suc}
use native.Mathlib.Omega.{arith}
use mathlib.Core.Path.{◌≡◌, refl, sym, ap, ◌∙◌}
use mathlib.Core.Bool.{Bool, true, false, ◌&&◌, ◌||◌, not, and-eq-true_iff}
use mathlib.Core.List.{List, [], ◌∷◌, ◌++◌}
use lib.Dec.{eqb}
use lib.ListN.{get_or}
use borrow.Author.Tests.{eq-eqb}
use borrow.Author.Count.{below_more}
use Rattle.std.specs.Prelude.{Option, Some}
use Rattle.isa.specs.Map
use Rattle.isa.specs.Table
use Rattle.isa.specs.Rom
use Rattle.isa.specs.Decode
use Rattle.isa.specs.ControlFlow
use Rattle.isa.specs.Sources.{is_named, names_only_sources}
use Rattle.isa.specs.declared.Source.{Source}
use Rattle.isa.specs.declared.Source.TheVariants.{Nmi, First, Second, Third, Fourth}
use Rattle.control.specs.Modes.{mode_number}
use Rattle.control.specs.declared.Mode.{Mode}
use Rattle.control.specs.declared.Mode.TheVariants.{Interrupt, NmiOverNormal, NmiOverInterrupt}
use Rattle.control.specs.declared.Control.{Control}
use Rattle.control.specs.Modes.{is_reset}
use Rattle.control.specs.Stack
use Rattle.control.specs.Transfers
use Rattle.control.specs.Requests
use Rattle.control.specs.WellFormed
use Rattle.data.specs.Effect.{effect_of, store_result_of}
use Rattle.data.specs.Space.{store_of, read_of, operand_of, address_of}
use Rattle.machine.specs.declared.Machine.{Machine}
use Rattle.machine.specs.Execute.{execute_of}
use Rattle.machine.specs.State.{reset_of, fresh_of, host_store_of}
use Rattle.machine.specs.Step
use Rattle.machine.specs.Run.{steps_of, requests_fit, run_of}
use Rattle.certificate.specs.Marks
use Rattle.certificate.specs.Successors
use Rattle.certificate.specs.Levels
use Rattle.certificate.specs.Vectors.{vectors_found, source_found, vector_found}
use Rattle.certificate.specs.Check.{check_of, accepted, marks_found, mark_found, pages_found, decoded_found, flow_found}
use Rattle.certificate.specs.Cases.{image11, certificate11}
use Rattle.certificate.proofs.Cases.{check_cases}
use Rattle.bench.specs.Calls.{Call, step, run, store, reset, leaves, leaves_all, unrolled}
use Rattle.bench.specs.Calls.{AsksOnly, FirstAskOnly, CallAsksOnly, AllAskOnly}
use Rattle.bench.specs.StackEffect as effect
use Rattle.bench.specs.StackEffect.{StackEffect, by_request, by_call, by_ret, by_reti, by_start_up, none}
use Rattle.bench.specs.NoTrace.{RetiIn, NoneEnding, InService, NextStep, EndsService}
use Rattle.bench.specs.ServiceCases.{ServedIn, sleeper, sleeper_certificate, woken}
use Rattle.bench.specs.ServiceCases.{paged, paged_certificate, ServiceCases}
use Rattle.bench.proofs.Reti.{reti_executed, reti_effect}
use Rattle.bench.proofs.NoTrace.{no_trace}

-- only wired sources ask, tested
abbrev fits : (wired request : ℕ) → Source → Bool
fits wired request s = not (is_named request s) || is_named wired s

abbrev all_fit : (wired request : ℕ) → Bool
all_fit wired request =
    fits wired request Nmi && (fits wired request First && (fits wired request Second
    && (fits wired request Third && fits wired request Fourth)))

implies : (a b : Bool) → (not a || b) ≡ true → a ≡ true → b ≡ true
implies true b e t = e
implies false b e t = cc

asks_by : (wired request : ℕ) → all_fit wired request ≡ true → AsksOnly wired request
asks_by wired request e s =
    let one = (and-eq-true_iff (fits wired request Nmi) _).0 e in
    let two = (and-eq-true_iff (fits wired request First) _).0 one.1 in
    let three = (and-eq-true_iff (fits wired request Second) _).0 two.1 in
    let four = (and-eq-true_iff (fits wired request Third) _).0 three.1 in
    implies (is_named request s) (is_named wired s) (by_source one.0 two.0 three.0 four.0 four.1 s)
  where
    by_source : fits wired request Nmi ≡ true → fits wired request First ≡ true → fits wired request Second ≡ true
        → fits wired request Third ≡ true → fits wired request Fourth ≡ true
        → (s : Source) → fits wired request s ≡ true
    by_source a b c d f Nmi = a
    by_source a b c d f First = b
    by_source a b c d f Second = c
    by_source a b c d f Third = d
    by_source a b c d f Fourth = f

abbrev first_fit : (wired : ℕ) → List ℕ → (n : ℕ) → Bool
first_fit wired requests zero = true
first_fit wired requests (suc n) = all_fit wired (get_or requests n 0) && first_fit wired requests n

first_ask : (wired : ℕ) (requests : List ℕ) (n : ℕ) → first_fit wired requests n ≡ true
    → FirstAskOnly wired requests n
first_ask wired requests zero e i h = absurd (omega arith)
first_ask wired requests (suc n) e i h =
    let p = (and-eq-true_iff (all_fit wired (get_or requests n 0)) (first_fit wired requests n)).0 e in
    below_more (λ j. AsksOnly wired (get_or requests j 0)) n (first_ask wired requests n p.1)
    (asks_by wired (get_or requests n 0) p.0) i (omega arith)

abbrev call_fits : (wired : ℕ) → Call → Bool
call_fits wired (step request) = all_fit wired request
call_fits wired (run requests n) = first_fit wired requests n
call_fits wired (store address value) = true
call_fits wired reset = true

abbrev calls_fit : (wired : ℕ) → List Call → Bool
calls_fit wired [] = true
calls_fit wired (c ∷ calls) = call_fits wired c && calls_fit wired calls

call_asks : (wired : ℕ) (c : Call) → call_fits wired c ≡ true → CallAsksOnly wired c
call_asks wired (step request) e = asks_by wired request e
call_asks wired (run requests n) e = first_ask wired requests n e
call_asks wired (store address value) e = tt
call_asks wired reset e = tt

all_ask : (wired : ℕ) (calls : List Call) → calls_fit wired calls ≡ true → AllAskOnly wired calls
all_ask wired [] e = tt
all_ask wired (c ∷ calls) e =
    let p = (and-eq-true_iff (call_fits wired c) (calls_fit wired calls)).0 e in
    (call_asks wired c p.0, all_ask wired calls p.1)

-- calls that do not end a service, tested
abbrev is_reti : StackEffect → Bool
is_reti (by_request source) = false
is_reti by_call = false
is_reti by_ret = false
is_reti by_reti = true
is_reti by_start_up = false
is_reti none = false

abbrev stays_in : (image : List ℕ) → Mode → Call → Machine → Bool
stays_in image mode (step request) m =
    not (is_reti (effect.stack_effect_of image m request) && eqb (mode_number m.control.mode) (mode_number mode))
stays_in image mode (run requests n) m = false
stays_in image mode (store address value) m = true
stays_in image mode reset m = false

abbrev all_stay_in : (image : List ℕ) → Mode → List Call → Machine → Bool
all_stay_in image mode [] m = true
all_stay_in image mode (c ∷ calls) m = stays_in image mode c m && all_stay_in image mode calls (leaves image c m)

none_ending : (image : List ℕ) (mode : Mode) → is_reset mode ≡ false → (calls : List Call) (m : Machine)
    → all_stay_in image mode calls m ≡ true → NoneEnding image mode calls m
none_ending image mode started [] m e = tt
none_ending image mode started (step request ∷ calls) m e =
    let p = (and-eq-true_iff (stays_in image mode (step request) m) _).0 e in
    (λ x. not_here x p.0, none_ending image mode started calls (leaves image (step request) m) p.1)
  where
    not_here : RetiIn image mode m request → stays_in image mode (step request) m ≡ true → ⊥
    not_here x t =
        let z : ◌≡◌ {A = Bool} false true =
        rw (
          reti_effect image mode m request x started,
          x.in_mode,
          eq-eqb (mode_number mode) (mode_number mode) refl,
        ) at t in
        cc
none_ending image mode started (run requests n ∷ calls) m e = cc
none_ending image mode started (store address value ∷ calls) m e =
    (tt, none_ending image mode started calls (leaves image (store address value) m) e)
none_ending image mode started (reset ∷ calls) m e = cc

in_mode_set : (image : List ℕ) (calls : List Call) (m : Machine) (a b : Mode) → a ≡ b → NoneEnding image b calls m
    → NoneEnding image a calls m
in_mode_set image calls m a b e n = rw e n

-- what is computed of a service: whether only wired sources ask, none of the calls within ends it, and both request
-- bytes name sources alone; what is taken, which mode that sets, and what the last step does, in which mode; control
-- before and after
record Computed : Type 0 where
  fit : Bool
  named : Bool
  takes : Option Source
  mode_set : Mode
  stays : Bool
  last_named : Bool
  last_effect : StackEffect
  in_mode : Mode
  taken_at : Control
  left_at : Control

-- a service of a source in a mode, from the taking to its RETI
abbrev whole : Source → Mode → (from to : Control) → Computed
whole source mode from to =
    record {
      fit = true;
      named = true;
      takes = Some source;
      mode_set = mode;
      stays = true;
      last_named = true;
      last_effect = by_reti;
      in_mode = mode;
      taken_at = from;
      left_at = to;
    }

-- a service by what is computed of it, and what the theorem says of it
module _ (image certificate : List ℕ) (wired number : ℕ) (e : check_of image certificate wired ≡ accepted number)
    (calls before since more : List Call) (request last : ℕ) (source : Source) (mode : Mode) (from to : Control) where
  abbrev first : Machine
  first = leaves_all image before fresh_of

  abbrev taking : Machine
  taking = leaves image (step request) first

  abbrev ending : Machine
  ending = leaves_all image since taking

  abbrev computed : Computed
  computed =
      record {
        fit = calls_fit wired calls;
        named = names_only_sources request;
        takes = Requests.requested_of first.control.mode (Step.enabled_of first.bytes) request;
        mode_set = taking.control.mode;
        stays = all_stay_in image mode since taking;
        last_named = names_only_sources last;
        last_effect = effect.stack_effect_of image ending last;
        in_mode = ending.control.mode;
        taken_at = first.control;
        left_at = (leaves image (step last) ending).control;
      }

  served_in_lem : is_reset mode ≡ false → unrolled calls ≡ before ++ (step request ∷ (since ++ (step last ∷ more)))
      → computed ≡ whole source mode from to → ServedIn image calls source from to
  unfolding fresh_of
  served_in_lem started place is =
      record {
        service = s;
        of_source = refl;
        last = last;
        next = n;
        ends = x;
        taken_at = ap (λ (c : Computed). c.taken_at) is;
        left_at = ap (λ (c : Computed). c.left_at) is;
        restored = (no_trace image certificate wired number e _ calls asks s).restored last n x;
      }
    where
      asks : AllAskOnly wired calls
      asks = all_ask wired calls (ap (λ (c : Computed). c.fit) is)

      mode_set : taking.control.mode ≡ mode
      mode_set = ap (λ (c : Computed). c.mode_set) is

      s : InService image fresh_of (unrolled calls)
      s =
          record {
            before = before;
            request = request;
            since = since;
            left = step last ∷ more;
            place = place;
            source = source;
            taken =
                record {
                  named = ap (λ (c : Computed). c.named) is;
                  takes = ap (λ (c : Computed). c.takes) is;
                };
            not_ended =
                in_mode_set image since taking _ mode mode_set
                (none_ending image mode started since taking (ap (λ (c : Computed). c.stays) is));
          }

      n : NextStep s last
      n = record { more = more; next = refl }

      x : EndsService s last
      x =
          reti_executed image taking.control.mode ending last (ap (λ (c : Computed). c.last_named) is)
          (ap (λ (c : Computed). c.in_mode) is ∙ sym mode_set) (ap (λ (c : Computed). c.last_effect) is)

-- start-up code, till the machine sleeps, and a step more
abbrev asleep : List Call
asleep = step 0x00 ∷ step 0x00 ∷ step 0x00 ∷ step 0x00 ∷ step 0x00 ∷ []

both_accepted : (check_of sleeper sleeper_certificate 0x03 ≡ accepted 2)
    × (check_of paged paged_certificate 0x01 ≡ accepted 1)
unfolding check_of marks_found mark_found pages_found decoded_found flow_found vectors_found source_found vector_found
    Marks.mark_at Marks.kind_at Marks.need_at Successors.placed Successors.successors_of Successors.all_have_kind
    Successors.covers_all Successors.successors_found Levels.source_levels Levels.levels_for Levels.levels_of Map.entry_of
    Table.bytes_of Table.cycles_of Map.form_as Map.form_of Rom.rom_at Rom.operand_at Rom.space_of Rom.page_of Rom.fixed_of
    Decode.decode_at ControlFlow.flow_of
both_accepted = (refl, refl)

pub service_cases : ServiceCases
unfolding leaves run_of requests_fit steps_of reset_of fresh_of host_store_of Step.step_of Step.action_of Step.due_of
    Step.unrequested_action Step.acted_of Step.executed_of Step.completed_of Step.taken_of Step.taken_by execute_of effect_of
    store_result_of store_of read_of operand_of address_of
    WellFormed.addresses_fit WellFormed.well_formed Requests.requested_of Requests.serving_of Requests.take_of
    Transfers.call_of Transfers.return_from_interrupt_of Transfers.advance_of Transfers.slept_of Stack.push_of Stack.pop_of
    Map.entry_of Table.bytes_of Table.cycles_of Map.form_as Map.form_of Rom.space_of Rom.page_of Rom.fixed_of Rom.rom_at
    Rom.operand_at Decode.decode_at ControlFlow.flow_of effect.stack_effect_of effect.action_effect
    effect.flow_effect
service_cases =
    record {
      p11 =
          served_in_lem image11 certificate11 0x01 2 check_cases.p11
          (run (0x00 ∷ 0x00 ∷ 0x00 ∷ 0x01 ∷ 0x00 ∷ []) 5 ∷ [])
          (step 0x00 ∷ step 0x00 ∷ step 0x00 ∷ [])
          []
          []
          0x01 0x00 Nmi NmiOverNormal _ _ refl refl refl;
      accepted_sleeper = both_accepted.0;
      source_woke =
          served_in_lem sleeper sleeper_certificate 0x03 2 both_accepted.0
          woken
          asleep
          (store 0x84 0x05 ∷ step 0x80 ∷ store 0x40 0x05 ∷ step 0x00 ∷ step 0x01 ∷ step 0x03 ∷ step 0x00 ∷ step 0x00
          ∷ step 0x00 ∷ [])
          []
          0x02 0x02 First Interrupt _ _ refl refl refl;
      nmi_within =
          served_in_lem sleeper sleeper_certificate 0x03 2 both_accepted.0
          woken
          (asleep ++ (step 0x02 ∷ store 0x84 0x05 ∷ step 0x80 ∷ store 0x40 0x05 ∷ step 0x00 ∷ []))
          (step 0x03 ∷ step 0x00 ∷ [])
          (step 0x00 ∷ step 0x02 ∷ [])
          0x01 0x00 Nmi NmiOverInterrupt _ _ refl refl refl;
      own_pair_before = refl;
      own_pair_after = refl;
      accepted_paged = both_accepted.1;
      paged_served =
          served_in_lem paged paged_certificate 0x01 1 both_accepted.1
          (run (0x00 ∷ 0x00 ∷ 0x00 ∷ 0x01 ∷ []) 7 ∷ [])
          (step 0x00 ∷ step 0x00 ∷ step 0x00 ∷ [])
          (step 0x00 ∷ step 0x00 ∷ [])
          []
          0x01 0x00 Nmi NmiOverNormal _ _ refl refl refl;
      page_before = refl;
      page_after = refl;
    }
