-- W-214: the service of a request leaves no trace.
use Prim.Native.Nat.{ℕ, ◌-◌, ◌<◌}
use native.Mathlib.Omega.{arith}
use mathlib.Core.Path.{◌≡◌, refl, sym, ap, ◌∙◌}
use mathlib.Core.Logic.{◌⊎◌, inl, inr}
use mathlib.Core.Bool.{Bool, true, false, cond, not}
use mathlib.Core.List.{List, [], ◌∷◌, ◌++◌}
use lib.Dec.{eqb}
use lib.ListN.{length, get_or}
use Rattle.isa.specs.Refusals.{plain, done, refused, unless}
use Rattle.isa.specs.Sources.{names_only_sources}
use Rattle.isa.specs.Displacement.{forward_of}
use Rattle.isa.specs.ControlFlow.{flow_of}
use Rattle.isa.specs.declared.Instruction.TheVariants as I
use Rattle.isa.specs.declared.Source.{Source}
use Rattle.control.specs.declared.Mode.{Mode}
use Rattle.std.specs.Prelude.{Option, Some, None}
use Rattle.control.specs.declared.Stop.{Stop}
use Rattle.control.specs.declared.Stop.TheVariants as stop
use Rattle.control.specs.declared.Control.{Control}
use Rattle.control.specs.Modes.{mode_beneath}
use Rattle.control.specs.Update.{with_pc, with_levels, with_mode}
use Rattle.control.specs.Stack.{Transferred, goes_on, stops, pop_of}
use Rattle.control.specs.Transfers.{then_in, ends_start_up, return_from_interrupt_of, advance_of}
use Rattle.control.specs.Requests.{take_of}
use Rattle.data.specs.Space.{in_window, program_of}
use Rattle.data.specs.Effect.{effect_of}
use Rattle.machine.specs.Execute.{execution_by, execute_of}
use Rattle.machine.specs.declared.Machine.{Machine}
use Rattle.machine.specs.State.{view_of, HostStore, with_byte, host_store_of, reset_of}
use Rattle.machine.specs.Advance.{stopped_of, served_of, after_of}
use Rattle.machine.specs.Step.{done_of, taken_by, taken_of, completed_of, executed_of, acted_of, advanced_of, step_of}
use Rattle.machine.specs.Refusals.{Takes}
use Rattle.machine.proofs.Due.{takes_due, awake_due}
use Rattle.machine.proofs.PairUse.{other_pairs_kept}
use Rattle.machine.proofs.StepByStep.{step_advances}
use Rattle.certificate.specs.Rules.{Rules}
use Rattle.certificate.proofs.Agreement.{agreement}
use Rattle.bench.specs.Calls.{Call, step, run, store, reset, leaves, leaves_all, unrolled}
use Rattle.bench.specs.Calls.{AsksOnly, CallAsksOnly, AllAskOnly}
use Rattle.bench.specs.Session.{return_addresses, levels_in_use}
use Rattle.bench.specs.StackEffect.{stack_effect_of}
use Rattle.bench.specs.NoTrace.{
  TakesRequest,
  RetiIn,
  NotEnding,
  NoneEnding,
  InService,
  interrupted,
  after_taking,
  current,
  mode_set,
  NextStep,
  SamePair,
  LeavesNoTrace,
  NoTrace,
  LevelsTell,
  LevelsTellEnd,
}
use Rattle.bench.proofs.StackFrames.{Over}
use Rattle.bench.proofs.Invariant.{MachineInvariant, reset_invariant, well_formed_lem}
use Rattle.bench.proofs.Steps.{step_goes, step_refused}
use Rattle.bench.proofs.Session.{call_kept}
use Rattle.bench.proofs.Unrolled.{asks_split, asks_unrolled}
use Rattle.bench.proofs.Above.{Above, Ended, Stays, suffix, deeper, above_moved, pairs_apart}
use Rattle.bench.proofs.Above.{over_beneath, over_started, over_taken, begun}
use Rattle.bench.proofs.Reti.{reti_executed, reti_effect, request_effect}

-- taking a request keeps all flags
taken_flags : (program : List ℕ) (m : Machine) (request : ℕ) (source : Source) → Takes m request source
    → (advanced_of program m request).machine.flags ≡ m.flags
unfolding advanced_of acted_of taken_of taken_by
taken_flags program m request source e =
    rw (takes_due program m request source e) (by_stop (take_of m.stack m.control source).stop)
  where
    by_stop : (s : Option Stop)
        → (stopped_of m s (done_of (served_of m (take_of m.stack m.control source)) 1)).machine.flags ≡ m.flags
    by_stop None = refl
    by_stop (Some s) = refl

-- after a RETI the machine is awake as before it
reti_awake : (slots : List ℕ) (c : Control) (next : ℕ)
    → (return_from_interrupt_of slots c next).control.asleep ≡ c.asleep
unfolding return_from_interrupt_of pop_of
reti_awake slots c next = by_tests (ends_start_up c) (eqb c.levels 0)
  where
    by_tests : (start empty : Bool)
        → (cond start (goes_on slots (with_mode (with_pc c next) (mode_beneath c.mode)))
        (then_in
        (cond empty (stops slots c stop.Empty)
        (goes_on slots (with_levels (with_pc c (get_or slots (c.levels - 1) 0)) (c.levels - 1))))
        (mode_beneath c.mode))).control.asleep
        ≡ c.asleep
    by_tests true empty = refl
    by_tests false true = refl
    by_tests false false = refl

-- in the service, in mode M, of a request taken at m₀
pub record Serving (certificate : List ℕ) (m₀ : Machine) (M : Mode) (m : Machine) : Type 0 where
  pub over : Over M m₀.control.mode
  pub above : Above certificate M m₀.control.pc (return_addresses m₀) m.control.mode m.control.pc
      (return_addresses m)
  pub pair : SamePair m₀.control.mode m₀ m

-- back where a request was taken at m₀
pub record Back (m₀ m : Machine) : Type 0 where
  pub address : m.control.pc ≡ m₀.control.pc
  pub mode : m.control.mode ≡ m₀.control.mode
  pub pair : SamePair m₀.control.mode m₀ m
  pub levels : return_addresses m ≡ return_addresses m₀
  pub awake : m.control.asleep ≡ false

-- a step ends the service, or is no RETI in its mode and stays in it
pub data Served (image certificate : List ℕ) (m₀ : Machine) (M : Mode) (m : Machine) (request : ℕ) : Type 0 where
  ends : RetiIn image M m request → Back m₀ (step_of image m request).machine
      → Served image certificate m₀ M m request
  stays : (RetiIn image M m request → ⊥) → Serving certificate m₀ M (step_of image m request).machine
      → Served image certificate m₀ M m request

module _ (image certificate : List ℕ) (wired number : ℕ) (ok : Rules image certificate wired number) where
  -- a taken request begins a service
  begins : (m : Machine) → MachineInvariant certificate wired m → (request : ℕ) → AsksOnly wired request
      → (source : Source) → TakesRequest m request source
      → Serving certificate m (step_of image m request).machine.control.mode (step_of image m request).machine
  begins m g request asks source t =
      let a = step_goes image certificate wired number ok m g request t.named asks in
      let b = begun a.moves (request_effect image m request source t.takes) in
      let formed = well_formed_lem image certificate wired number ok m g in
      let flags : (step_of image m request).machine.flags ≡ m.flags =
      rw (step_advances image m request ok.image_length formed t.named)
      (taken_flags (program_of image m.bytes) m request source t.takes) in
      record {
        over = rw b.mode_set (over_taken b.takes);
        above = b.above;
        pair = rw flags refl;
      }

  awake_after : (m : Machine) → MachineInvariant certificate wired m → (request : ℕ) {mode : Mode}
      → RetiIn image mode m request → (step_of image m request).machine.control.asleep ≡ false
  unfolding advanced_of acted_of executed_of completed_of execute_of flow_of advance_of
  awake_after m g request x =
      rw (
        step_advances image m request ok.image_length (well_formed_lem image certificate wired number ok m g)
            x.named,
        awake_due program m request x.none_taken x.awake _ x.at_pc,
      )
      (by_stop reti.stop)
    where
      program : List ℕ
      program = program_of image m.bytes

      reti : Transferred
      reti = return_from_interrupt_of m.stack m.control (forward_of m.control.pc x.bytes)

      by_stop : (s : Option Stop)
          → (stopped_of m s
          (done_of (after_of m (execution_by (effect_of program (view_of m) I.Reti) reti)) x.cycles)
          ).machine.control.asleep ≡ false
      by_stop None = reti_awake m.stack m.control (forward_of m.control.pc x.bytes) ∙ x.awake
      by_stop (Some s) = x.awake

  module _ (m₀ : Machine) (M : Mode) (m : Machine) (g : MachineInvariant certificate wired m)
      (s : Serving certificate m₀ M m) where
    -- the flag pair of the interrupted mode is not that of the step's mode
    pair_kept : (request : ℕ) → SamePair m₀.control.mode m₀ (step_of image m request).machine
    pair_kept request =
        other_pairs_kept image m request m₀.control.mode (pairs_apart s.over s.above) ∙ s.pair

    step_serves : (request : ℕ) → AsksOnly wired request → Served image certificate m₀ M m request
    step_serves request asks = by_test (names_only_sources request) refl
      where
        m₁ : Machine
        m₁ = (step_of image m request).machine

        by_move : names_only_sources request ≡ true
            → Ended M m₀.control.pc (return_addresses m₀) (stack_effect_of image m request) m.control.mode
            m₁.control.mode m₁.control.pc (return_addresses m₁)
            ⊎ Stays certificate M m₀.control.pc (return_addresses m₀) (stack_effect_of image m request)
            m.control.mode m₁.control.mode m₁.control.pc (return_addresses m₁)
            → Served image certificate m₀ M m request
        by_move named (inl e) =
            let x = reti_executed image M m request named e.in_mode e.is_reti in
            ends x
            (record {
              address = e.address;
              mode = e.mode ∙ sym (over_beneath s.over);
              pair = pair_kept request;
              levels = e.levels;
              awake = awake_after m g request x;
            })
        by_move named (inr a) =
            stays
            (λ x. a.not_ended (reti_effect image M m request x (over_started s.over)) x.in_mode)
            (record { over = s.over; above = a.above; pair = pair_kept request })

        by_test : (known : Bool) → names_only_sources request ≡ known → Served image certificate m₀ M m request
        by_test true e =
            by_move e
            (above_moved (step_goes image certificate wired number ok m g request e asks).moves s.above)
        by_test false e =
            stays (λ x. let n = x.named in cc)
            (rw (step_refused image certificate wired number ok m g request e) s)

    -- a host store keeps all but data
    store_serves : (address value : ℕ) → Serving certificate m₀ M (host_store_of m address value).machine
    unfolding host_store_of
    store_serves address value =
        rw (well_formed_lem image certificate wired number ok m g) (by_test (not (in_window address)))
      where
        by_test : (outside : Bool)
            → Serving certificate m₀ M
            (unless {A = HostStore} outside (record { machine = m; ending = refused (plain 10) })
            (record { machine = with_byte m address value; ending = (done tt) })).machine
        by_test true = record { over = s.over; above = s.above; pair = s.pair }
        by_test false = s

  -- with the invariant of demand 3
  abbrev pub Goes : Machine → Mode → Machine → Type 0
  Goes m₀ M m = MachineInvariant certificate wired m × Serving certificate m₀ M m

  stayed : {m₀ : Machine} {M : Mode} {m : Machine} {request : ℕ} → (RetiIn image M m request → ⊥)
      → Served image certificate m₀ M m request → Serving certificate m₀ M (step_of image m request).machine
  stayed n (ends x r) = absurd (n x)
  stayed n (stays _ s) = s

  -- a call that does not end it stays in it
  pub call_serves : (c : Call) {m₀ : Machine} {M : Mode} {m : Machine} → CallAsksOnly wired c → NotEnding image M c m
      → Goes m₀ M m → Goes m₀ M (leaves image c m)
  unfolding leaves
  call_serves (step request) {m₀} {M} {m} asks not g = (
    (call_kept image certificate wired number ok (step request) m asks g.0).1,
    stayed not (step_serves m₀ M m g.0 g.1 request asks),
  )
  call_serves (run requests n) asks not g = absurd not
  call_serves (store address value) {m₀} {M} {m} asks not g = (
    (call_kept image certificate wired number ok (store address value) m asks g.0).1,
    store_serves m₀ M m g.0 g.1 address value,
  )
  call_serves reset asks not g = absurd not

  all_serve : (calls : List Call) {m₀ : Machine} {M : Mode} {m : Machine} → AllAskOnly wired calls
      → NoneEnding image M calls m → Goes m₀ M m → Goes m₀ M (leaves_all image calls m)
  all_serve [] asks none g = g
  all_serve (c ∷ calls) asks none g = all_serve calls asks.1 none.1 (call_serves c asks.0 none.0 g)

  -- any list of calls keeps the invariant
  pub all_kept : (calls : List Call) (m : Machine) → AllAskOnly wired calls → MachineInvariant certificate wired m
      → MachineInvariant certificate wired (leaves_all image calls m)
  all_kept [] m asks g = g
  all_kept (c ∷ calls) m asks g =
      all_kept calls (leaves image c m) asks.1 (call_kept image certificate wired number ok c m asks.0 g).1

  -- a service at its taking, at its moment, and at the next step
  pub record AtMoment {start : Machine} {calls : List Call} (s : InService image start calls) : Type 0 where
    pub invariant : MachineInvariant certificate wired (interrupted s)
    pub asks : AsksOnly wired s.request
    pub taken : Goes (interrupted s) (mode_set s) (after_taking s)
    pub asks_since : AllAskOnly wired s.since
    pub serving : Serving certificate (interrupted s) (mode_set s) (current s)
    pub next : (request : ℕ) → NextStep s request
        → Served image certificate (interrupted s) (mode_set s) (current s) request

  pub at_moment : (start : Machine) (calls : List Call) → MachineInvariant certificate wired start
      → AllAskOnly wired calls → (s : InService image start calls) → AtMoment s
  unfolding leaves
  at_moment start calls g asks s =
      let a = asks_split wired s.before (step s.request ∷ (s.since ++ s.left)) (rw s.place at asks) in
      let b = asks_split wired s.since s.left a.1.1 in
      let g₀ = all_kept s.before start a.0 g in
      let g₁ = (call_kept image certificate wired number ok (step s.request) (interrupted s) a.1.0 g₀).1 in
      let t = begins (interrupted s) g₀ s.request a.1.0 s.source s.taken in
      let h = all_serve s.since b.0 s.not_ended (g₁, t) in
      record {
        invariant = g₀;
        asks = a.1.0;
        taken = (g₁, t);
        asks_since = b.0;
        serving = h.1;
        next = λ request n.
            step_serves (interrupted s) (mode_set s) (current s) h.0 h.1 request (rw n.next at b.1).0;
      }

  more_levels : {m₀ : Machine} {M : Mode} {m : Machine} → Serving certificate m₀ M m
      → levels_in_use m₀ < levels_in_use m
  unfolding levels_in_use
  more_levels s = deeper s.above

  pub back_by : {m₀ : Machine} {M : Mode} {m : Machine} {request : ℕ} → RetiIn image M m request
      → Served image certificate m₀ M m request → Back m₀ (step_of image m request).machine
  back_by x (ends _ r) = r
  back_by x (stays n _) = absurd (n x)

  ends_by : {m₀ : Machine} {M : Mode} {m : Machine} {request : ℕ}
      → levels_in_use (step_of image m request).machine ≡ levels_in_use m₀
      → Served image certificate m₀ M m request → RetiIn image M m request
  ends_by e (ends x _) = x
  ends_by e (stays _ s) = let h = more_levels s in absurd (omega arith)

  pub leaves_no_trace : (start : Machine) (calls : List Call) → MachineInvariant certificate wired start
      → AllAskOnly wired calls → (s : InService image start calls) → LeavesNoTrace s
  unfolding leaves
  leaves_no_trace start calls g asks s =
      let h = at_moment start calls g asks s in
      record {
        beneath = let u = suffix h.serving.above in record { above = u.0; same = u.1 };
        restored = λ request n x.
            let b = back_by x (h.next request n) in
            record { address = b.address; mode = b.mode; pair = b.pair; levels = b.levels; awake = b.awake };
      }

  pub levels_tell : (start : Machine) (calls : List Call) → MachineInvariant certificate wired start
      → AllAskOnly wired calls → (s : InService image start calls) → LevelsTell s
  unfolding leaves levels_in_use
  levels_tell start calls g asks s =
      let h = at_moment start calls g asks s in
      record {
        more = more_levels h.serving;
        again = λ request n x. ap length (back_by x (h.next request n)).levels;
        no_other = λ request n e. ends_by e (h.next request n);
      }

-- W-214
pub no_trace : NoTrace
no_trace image certificate wired number e m calls asks s =
    let ok = (agreement image certificate wired number).sound e in
    leaves_no_trace image certificate wired number ok (reset_of m) (unrolled calls)
    (reset_invariant image certificate wired number ok m) (asks_unrolled wired calls asks) s

pub levels_tell_end : LevelsTellEnd
levels_tell_end image certificate wired number e m calls asks s =
    let ok = (agreement image certificate wired number).sound e in
    levels_tell image certificate wired number ok (reset_of m) (unrolled calls)
    (reset_invariant image certificate wired number ok m) (asks_unrolled wired calls asks) s
