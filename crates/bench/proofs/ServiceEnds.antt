-- The request whose service a step ends is told by the modes: `EndTold`.
use Prim.Native.Nat.{ℕ, ◌≤◌, ◌<◌}
use native.Mathlib.Omega.{arith}
use mathlib.Core.Path.{◌≡◌, refl, ◌∙◌}
use mathlib.Core.Bool.{Bool, true, false, cond}
use mathlib.Core.List.{List, [], ◌∷◌, ◌++◌}
use lib.Dec.{ltb}
use borrow.Author.Tests.{ltb-true}
use Rattle.std.specs.Prelude.{Option, Some, None}
use Rattle.isa.specs.Sources.{names_only_sources}
use Rattle.isa.specs.declared.Source.{Source}
use Rattle.control.specs.declared.Mode.{Mode}
use Rattle.control.specs.declared.Mode.TheVariants.{Interrupt}
use Rattle.control.specs.Requests.{requested_of, service_mode}
use Rattle.machine.specs.declared.Machine.{Machine}
use Rattle.machine.specs.State.{reset_of}
use Rattle.machine.specs.Step.{enabled_of, step_of}
use Rattle.certificate.specs.Rules.{Rules}
use Rattle.certificate.proofs.Agreement.{agreement}
use Rattle.bench.specs.Calls.{Call, step, run, store, reset, leaves, leaves_all, AsksOnly, AllAskOnly, unrolled}
use Rattle.bench.specs.StackEffect.{StackEffect, by_reti}
use Rattle.bench.specs.NoTrace.{RetiIn, NoneEnding, TakesRequest, InService, interrupted, current, NextStep}
use Rattle.bench.specs.NoTrace.{after_step, EndsService}
use Rattle.bench.specs.ServiceEnds.{open_services, latest_of, served_in, ended_of, latest_after, latest_after_all}
use Rattle.bench.specs.ServiceEnds.{EndTold}
use Rattle.bench.proofs.StackFrames.{Over, source_normal, nmi_normal, nmi_interrupt}
use Rattle.bench.proofs.Moves.{Takes, nmi, first, second, third, fourth, nested, Moves}
use Rattle.bench.proofs.Moves as moves
use Rattle.bench.proofs.Requests.{IfTaken, taken_takes}
use Rattle.bench.proofs.Invariant.{MachineInvariant, reset_invariant}
use Rattle.bench.proofs.Steps.{step_goes, step_refused}
use Rattle.bench.proofs.Unrolled.{asks_split, asks_unrolled}
use Rattle.bench.proofs.Above.{over_depth, over_taken, deep, begun}
use Rattle.bench.proofs.Reti.{reti_executed, request_effect}
use Rattle.bench.proofs.NoTrace.{Serving, Goes, call_serves, all_kept, at_moment, back_by}

-- a taking sets a mode that serves it
taking_served : {m : Mode} {source : Source} → Takes m source → (latest : Source)
    → served_in (service_mode source m) (latest_of latest (Some source)) ≡ Some source
taking_served nmi latest = refl
taking_served first latest = refl
taking_served second latest = refl
taking_served third latest = refl
taking_served fourth latest = refl
taking_served nested latest = refl

-- within a service no source is taken but NMI
latest_kept : (m : Mode) → 1 ≤ open_services m → (latest : Source) (r : Option Source) → IfTaken (Takes m) r
    → latest_of latest r ≡ latest
latest_kept _ inside latest None t = refl
latest_kept _ inside latest (Some source) nmi = refl
latest_kept _ inside latest (Some source) first = absurd (omega arith)
latest_kept _ inside latest (Some source) second = absurd (omega arith)
latest_kept _ inside latest (Some source) third = absurd (omega arith)
latest_kept _ inside latest (Some source) fourth = absurd (omega arith)
latest_kept _ inside latest (Some source) nested = refl

-- so what its mode serves stays
served_kept : {M under : Mode} → Over M under → (m : Mode) → open_services M ≤ open_services m → (enabled : Bool)
    (request : ℕ) (latest : Source)
    → served_in M (latest_of latest (requested_of m enabled request)) ≡ served_in M latest
served_kept source_normal m inside enabled request latest =
    rw (latest_kept m (within_one inside) latest (requested_of m enabled request) (taken_takes m enabled request)) refl
  where
    within_one : open_services Interrupt ≤ open_services m → 1 ≤ open_services m
    within_one h = let e = over_depth source_normal in omega arith
served_kept nmi_normal m inside enabled request latest = refl
served_kept nmi_interrupt m inside enabled request latest = refl

-- the RETI of a service leaves fewer services inside
ended_over : {M under : Mode} → Over M under → (a b : Mode) → a ≡ M → b ≡ under → (latest : Source)
    → ended_of a b latest ≡ served_in M latest
unfolding ended_of
ended_over source_normal a b before after latest = rw (before, after) refl
ended_over nmi_normal a b before after latest = rw (before, after) refl
ended_over nmi_interrupt a b before after latest = rw (before, after) refl

fewer : (r : Option Source) (source : Source) (b : Bool) → cond b r None ≡ Some source → b ≡ true
fewer r source true e = refl
fewer r source false e = cc

fewer_open : (m m' : Mode) (latest source : Source) → ended_of m m' latest ≡ Some source
    → open_services m' < open_services m
unfolding ended_of
fewer_open m m' latest source e =
    ltb-true (open_services m') (open_services m)
    (fewer (served_in m latest) source (ltb (open_services m') (open_services m)) e)

-- a move that leaves fewer services inside is a RETI
fewer_moved : {certificate : List ℕ} {wired : ℕ} {d : StackEffect} {m m' : Mode} {p p' : ℕ} {s s' : List ℕ}
    → Moves certificate wired d m p s m' p' s' → open_services m' < open_services m → d ≡ by_reti
fewer_moved moves.idles h = absurd (omega arith)
fewer_moved (moves.continues c) h = absurd (omega arith)
fewer_moved (moves.calls c) h = absurd (omega arith)
fewer_moved (moves.returns k) h = absurd (omega arith)
fewer_moved (moves.leaves k) h = refl
fewer_moved (moves.begins e) h = absurd (omega arith)
fewer_moved (moves.takes t w) h = absurd (omega (arith, over_depth (over_taken t)))

-- the source taken last, after one list and another
latest_append : (image : List ℕ) (xs ys : List Call) (m : Machine) (latest : Source)
    → latest_after_all image (xs ++ ys) m latest
    ≡ latest_after_all image ys (leaves_all image xs m) (latest_after_all image xs m latest)
latest_append image [] ys m latest = refl
latest_append image (c ∷ xs) ys m latest = latest_append image xs ys (leaves image c m) (latest_after c m latest)

module _ (image certificate : List ℕ) (wired number : ℕ) (ok : Rules image certificate wired number) where
  -- a call within a service
  call_follows : (c : Call) {m₀ : Machine} {M : Mode} {m : Machine} → Serving certificate m₀ M m → (latest : Source)
      → served_in M (latest_after c m latest) ≡ served_in M latest
  call_follows (step request) {m₀} {M} {m} s latest = by_test (names_only_sources request)
    where
      by_test : (known : Bool)
          → served_in M
          (cond known (latest_of latest (requested_of m.control.mode (enabled_of m.bytes) request)) latest)
          ≡ served_in M latest
      by_test true =
          served_kept s.over m.control.mode (deep s.above) (enabled_of m.bytes) request latest
      by_test false = refl
  call_follows (run requests n) s latest = refl
  call_follows (store address value) s latest = refl
  call_follows reset s latest = refl

  all_follow : (calls : List Call) {m₀ : Machine} {M : Mode} {m : Machine} → AllAskOnly wired calls
      → NoneEnding image M calls m → Goes image certificate wired number ok m₀ M m → (latest : Source)
      → served_in M (latest_after_all image calls m latest) ≡ served_in M latest
  all_follow [] asks none g latest = refl
  all_follow (c ∷ calls) {m₀} {M} {m} asks none g latest =
      all_follow calls asks.1 none.1
      (call_serves image certificate wired number ok c asks.0 none.0 g) (latest_after c m latest)
      ∙ call_follows c g.1 latest

  -- at its taking, whatever was taken before
  begin_follows : (m : Machine) → MachineInvariant certificate wired m → (request : ℕ) → AsksOnly wired request
      → (source : Source) → TakesRequest m request source → (latest : Source)
      → served_in (step_of image m request).machine.control.mode (latest_after (step request) m latest) ≡ Some source
  begin_follows m g request asks source t latest =
      let b =
      begun (step_goes image certificate wired number ok m g request t.named asks).moves
      (request_effect image m request source t.takes) in
      rw (b.mode_set, t.named, t.takes) (taking_served b.takes latest)

  end_named : (start : Machine) (calls : List Call) → MachineInvariant certificate wired start
      → AllAskOnly wired calls → (s : InService image start calls) (request : ℕ) → NextStep s request
      → EndsService s request → (begins : Source)
      → ended_of (current s).control.mode (after_step s request).control.mode
      (latest_after_all image (s.before ++ (step s.request ∷ s.since)) start begins)
      ≡ Some s.source
  unfolding leaves
  end_named start calls g asks s request n x begins =
      let h = at_moment image certificate wired number ok start calls g asks s in
      let latest = latest_after_all image s.before start begins in
      let b = back_by image certificate wired number ok x (h.next request n) in
      rw (latest_append image s.before (step s.request ∷ s.since) start begins)
      (ended_over h.serving.over (current s).control.mode (after_step s request).control.mode x.in_mode
      b.mode _
      ∙ all_follow s.since h.asks_since s.not_ended h.taken _
      ∙ begin_follows (interrupted s) h.invariant s.request h.asks s.source s.taken latest)

  end_only : (m : Machine) → MachineInvariant certificate wired m → (request : ℕ) → AsksOnly wired request
      → (latest source : Source)
      → ended_of m.control.mode (step_of image m request).machine.control.mode latest ≡ Some source
      → RetiIn image m.control.mode m request
  end_only m g request asks latest source e = by_test (names_only_sources request) refl
    where
      lower : open_services (step_of image m request).machine.control.mode < open_services m.control.mode
      lower = fewer_open m.control.mode (step_of image m request).machine.control.mode latest source e

      by_test : (known : Bool) → names_only_sources request ≡ known → RetiIn image m.control.mode m request
      by_test true k =
          reti_executed image m.control.mode m request k refl
          (fewer_moved (step_goes image certificate wired number ok m g request k asks).moves lower)
      by_test false k =
          let h : open_services m.control.mode < open_services m.control.mode =
          rw (step_refused image certificate wired number ok m g request k) at lower in
          absurd (omega arith)

pub end_told : EndTold
unfolding leaves
end_told =
    record {
      named = λ image certificate wired number e m calls asks s request n x begins.
          let ok = (agreement image certificate wired number).sound e in
          end_named image certificate wired number ok (reset_of m) (unrolled calls)
          (reset_invariant image certificate wired number ok m) (asks_unrolled wired calls asks) s request n x begins;
      only = λ image certificate wired number e m calls asks before more request place latest source told.
          let ok = (agreement image certificate wired number).sound e in
          let a =
          asks_split wired before (step request ∷ more) (rw place at (asks_unrolled wired calls asks)) in
          end_only image certificate wired number ok (leaves_all image before (reset_of m))
          (all_kept image certificate wired number ok before (reset_of m) a.0
          (reset_invariant image certificate wired number ok m))
          request a.1.0 latest source told;
    }
