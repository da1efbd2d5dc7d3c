-- A run step by step.
use Prim.Native.Nat.{ℕ, zero, suc, ◌+◌, ◌-◌, ◌≤◌, ◌<◌}
use mathlib.Core.Path.{◌≡◌, refl, sym, ap, ◌∙◌}
use mathlib.Core.Bool.{Bool, true, false, and-eq-true_iff}
use mathlib.Core.List.{List}
use native.Mathlib.Omega.{arith}
use native.Mathlib.Nat.{zero-add, suc-add}
use native.Mathlib.Numerals.{add-one}
use borrow.Author.Count.{below_more}
use borrow.Author.Tests.{ltb-true, ltb-false}
use lib.Dec.{ltb}
use lib.ListN.{get_or, length, take, get_or-eq_default, length-take}
use Rattle.std.proofs.lemmas.List.{get_or-take}
use Rattle.std.specs.Bool.{MatchBool}
use Rattle.std.specs.List.{AllWithin, HoldsAt}
use Rattle.std.specs.Prelude.{None, Result, Ok, Err, is_err}
use Rattle.isa.specs.declared.Refusal.{Refusal}
use Rattle.isa.specs.Refusals.{Numbered, done, refused, answered}
use Rattle.isa.specs.Sources.{names_only_sources}
use Rattle.isa.specs.Rom.{is_image}
use Rattle.isa.specs.Decode.{decode_at}
use Rattle.data.specs.Space.{program_of}
use Rattle.control.specs.Requests.{requested_of}
use Rattle.machine.specs.declared.Machine.{Machine}
use Rattle.machine.specs.State.{is_well_formed}
use Rattle.machine.specs.Advance.{Step, done_of, refused_of, acted_of, advanced_of}
use Rattle.machine.specs.Actions.{enabled_of, decoded_action, unrequested_action}
use Rattle.machine.specs.Step.{step_of}
use Rattle.machine.specs.Steps.{Run, run_at, settled_by, continued_of, steps_of, requests_fit}
use Rattle.machine.proofs.Due.{idles_due, action_due}

apart : ◌≡◌ {A = Bool} false true → ⊥
apart e = let z : ◌≡◌ {A = ℕ} 0 1 = cc in omega arith

-- a step that is not refused
pub step_advances :
    (image : List ℕ) (m : Machine) (request : ℕ) → is_image (length image) ≡ true → is_well_formed m ≡ true →
    names_only_sources request ≡ true → step_of image m request ≡ advanced_of (program_of image m.bytes) m request
unfolding step_of advanced_of
step_advances image m request i w n =
    ap (acted_of (program_of image m.bytes) m) (action_due image m request i w n)

-- each of the first n request bytes names nothing but sources
pub fits_at :
    (requests : List ℕ) (n : ℕ) → requests_fit requests n ≡ true → (k : ℕ) → k < n →
    names_only_sources (get_or requests k 0) ≡ true
unfolding requests_fit
fits_at requests zero e k h = absurd (omega arith)
fits_at requests (suc n) e k h =
    let p : (names_only_sources (get_or requests n 0) ≡ true) × (requests_fit requests n ≡ true) =
    (and-eq-true_iff (names_only_sources (get_or requests n 0)) (requests_fit requests n)).0 e in
    below_more (λ j. names_only_sources (get_or requests j 0) ≡ true) n (fits_at requests n p.1) p.0 k (omega arith)

-- a byte that does not makes the test fail
pub fits_not :
    (requests : List ℕ) (n k : ℕ) → k < n → names_only_sources (get_or requests k 0) ≡ false →
    (b : Bool) → requests_fit requests n ≡ b → b ≡ false
fits_not requests n k h named false e = refl
fits_not requests n k h named true e =
    let fits : names_only_sources (get_or requests k 0) ≡ true = fits_at requests n e k h in
    cc

-- they fit if each does
all_fit :
    (requests : List ℕ) (n : ℕ) → ((k : ℕ) → k < n → names_only_sources (get_or requests k 0) ≡ true) →
    requests_fit requests n ≡ true
unfolding requests_fit
all_fit requests zero f = refl
all_fit requests (suc n) f = rw (f n (omega arith)) (all_fit requests n (λ k h. f k (omega arith)))

-- the test looks at the bytes that there are, since past the list's end there is nothing that does not fit
pub fit_taken :
    (requests : List ℕ) (n : ℕ) (b : Bool) →
    MatchBool b
    (AllWithin (λ q. names_only_sources q ≡ true) (take n requests) 0 (length (take n requests)))
    ((k : ℕ) × (k < length (take n requests)) × HoldsAt (λ q. names_only_sources q ≡ false) (take n requests) k) →
    b ≡ requests_fit requests n
fit_taken requests n true f = sym (all_fit requests n (λ k h. at k h (ltb k (length requests)) refl))
  where
    at : (k : ℕ) → k < n → (t : Bool) → ltb k (length requests) ≡ t → names_only_sources (get_or requests k 0) ≡ true
    at k h true e =
        let inside : k < length (take n requests) =
        omega (arith, length-take n requests, ltb-true k (length requests) e, h) in
        rw get_or-take at (f k 0 (omega arith) inside)
    at k h false e = rw (get_or-eq_default requests 0 {n = k} (ltb-false k (length requests) e))
fit_taken requests n false (k, h, f) =
    let inside : k < n = omega (arith, length-take n requests, h) in
    sym (fits_not requests n k inside (rw (get_or-take n requests k 0 inside) at (f 0)) _ refl)

-- step i of a run, from what the program knows
pub stepped :
    (image requests : List ℕ) (m : Machine) (n i request : ℕ) (s : Step) → is_image (length image) ≡ true →
    is_well_formed m ≡ true → requests_fit requests n ≡ true → i < n → request ≡ get_or requests i 0 →
    s ≡ advanced_of (program_of image m.bytes) m request → s ≡ step_of image m (get_or requests i 0)
stepped image requests m n i request s v w f h e a =
    a ∙ ap (advanced_of (program_of image m.bytes) m) e
    ∙ sym (step_advances image m (get_or requests i 0) v w (fits_at requests n f i h))

-- asleep with nothing to take, and awake
pub idle :
    (image : List ℕ) (m : Machine) → m.control.asleep ≡ true →
    done_of m 0 ≡ acted_of image m (unrequested_action image m.control)
unfolding acted_of unrequested_action
idle image m e = rw e

pub awake :
    (image : List ℕ) (m : Machine) → m.control.asleep ≡ false →
    acted_of image m (decoded_action (decode_at image m.control.pc))
    ≡ acted_of image m (unrequested_action image m.control)
unfolding unrequested_action
awake image m e = rw e

-- a step of a sleeper with nothing to take leaves the machine, and takes no cycles
pub idle_advance :
    (image : List ℕ) (m : Machine) (request : ℕ) → m.control.asleep ≡ true →
    requested_of m.control.mode (enabled_of m.bytes) request ≡ None → done_of m 0 ≡ advanced_of image m request
unfolding acted_of advanced_of
idle_advance image m request e f = ap (acted_of image m) (sym (idles_due image m request f e))

-- a run that has ended stays as it is
ended_stays :
    (image : List ℕ) (r : Run) (request : ℕ) (n : Numbered) → r.report.ending ≡ refused n →
    continued_of image r request ≡ r
ended_stays image r request n e = rw e

module _ (image requests : List ℕ) (m : Machine) where
  pub next_step :
      (i : ℕ) → steps_of image requests m (suc i) ≡ continued_of image (steps_of image requests m i) (get_or requests i 0)
  unfolding steps_of
  next_step i = refl

  after :
      (i : ℕ) (r : Run) → r ≡ steps_of image requests m i →
      continued_of image r (get_or requests i 0) ≡ steps_of image requests m (suc i)
  after i r e = rw (next_step i, ← e)

  stays_by :
      (k d : ℕ) (r : Numbered) → (steps_of image requests m k).report.ending ≡ refused r →
      steps_of image requests m (d + k) ≡ steps_of image requests m k
  stays_by k zero r e = ap (steps_of image requests m) (zero-add k)
  stays_by k (suc d) r e =
      let before : steps_of image requests m (d + k) ≡ steps_of image requests m k = stays_by k d r e in
      ap (steps_of image requests m) (suc-add d k) ∙ next_step (d + k)
      ∙ ended_stays image (steps_of image requests m (d + k)) (get_or requests (d + k) 0) r
      (ap (λ (x : Run). x.report.ending) before ∙ e)
      ∙ before

  -- a step that completes, after i that did
  pub one_more :
      (i cycles more : ℕ) (n o : Machine) → run_at n i cycles (done tt) ≡ steps_of image requests m i →
      done_of o more ≡ step_of image n (get_or requests i 0) →
      run_at o (i + 1) (cycles + more) (done tt) ≡ steps_of image requests m (i + 1)
  one_more i cycles more n o e s =
      let joined : run_at o (i + 1) (cycles + more) (done tt)
      ≡ continued_of image (run_at n i cycles (done tt)) (get_or requests i 0) =
      rw (← s) in
      joined ∙ after i (run_at n i cycles (done tt)) e ∙ ap (steps_of image requests m) (sym (add-one i))

  -- steps that leave the machine and take no cycles, after i that completed
  pub idle_steps :
      (i cycles : ℕ) (o : Machine) → run_at o i cycles (done tt) ≡ steps_of image requests m i → (d : ℕ) →
      ((k : ℕ) → i ≤ k → k < i + d → done_of o 0 ≡ step_of image o (get_or requests k 0)) →
      run_at o (i + d) cycles (done tt) ≡ steps_of image requests m (i + d)
  idle_steps i cycles o e zero f =
      let here : i + 0 ≡ i = omega arith in
      rw here e
  idle_steps i cycles o e (suc d) f =
      let next : i + suc d ≡ (i + d) + 1 = omega arith in
      let same : cycles + 0 ≡ cycles = omega arith in
      rw next (rw same at
      (one_more (i + d) cycles 0 o o (idle_steps i cycles o e d (λ k l h. f k l (omega arith)))
      (f (i + d) (omega arith) (omega arith))))

  -- and those that leave a well-formed machine by what the program knows
  pub idle_to :
      (i j n cycles : ℕ) (o : Machine) → is_image (length image) ≡ true → is_well_formed o ≡ true →
      requests_fit requests n ≡ true → i ≤ j → j ≤ n →
      ((k : ℕ) → i ≤ k → k < j → done_of o 0 ≡ advanced_of (program_of image o.bytes) o (get_or requests k 0)) →
      run_at o i cycles (done tt) ≡ steps_of image requests m i →
      run_at o j cycles (done tt) ≡ steps_of image requests m j
  idle_to i j n cycles o v w fits l h f e =
      let whole : i + (j - i) ≡ j = omega arith in
      rw whole at (idle_steps i cycles o e (j - i) (λ k a b.
      stepped image requests o n k _ _ v w fits (omega arith) refl (f k a (omega arith))))

  -- a step that stops, after i that completed, ends the run
  pub stops_at :
      (i n cycles : ℕ) (o p : Machine) (r : Numbered) → i < n →
      run_at o i cycles (done tt) ≡ steps_of image requests m i → refused_of p r ≡ step_of image o (get_or requests i 0) →
      run_at p i cycles (refused r) ≡ steps_of image requests m n
  stops_at i n cycles o p r h e s =
      let joined : run_at p i cycles (refused r) ≡ continued_of image (run_at o i cycles (done tt)) (get_or requests i 0) =
      rw (← s) in
      let here : run_at p i cycles (refused r) ≡ steps_of image requests m (suc i) =
      joined ∙ after i (run_at o i cycles (done tt)) e in
      let whole : (n - suc i) + suc i ≡ n = omega arith in
      here ∙ sym (stays_by (suc i) (n - suc i) r (sym (ap (λ (x : Run). x.report.ending) here)))
      ∙ ap (steps_of image requests m) whole

-- a part of a run that stops settles all its steps, and one that does not those that it counts
pub stopped_settles : (r : Result (Unit {0}) Refusal) (steps n : ℕ) → is_err r ≡ true → settled_by r steps n ≡ n
stopped_settles (Ok u) steps n e = absurd (apart e)
stopped_settles (Err r) steps n e = refl

pub counted_settles :
    (r : Result (Unit {0}) Refusal) (steps n : ℕ) → is_err r ≡ false →
    (settled_by r steps n ≡ steps) × (answered r ≡ done tt)
counted_settles (Ok u) steps n e = (refl, refl)
counted_settles (Err r) steps n e = absurd (apart (sym e))
