-- `steps::all_steps` meets its contract. The loop's invariant: the first i steps completed, the machine is well formed
-- and the store coherent.
use mathlib.Core.Path.{◌≡◌, refl, sym, ap, ◌∙◌}
use native.Mathlib.Omega.{arith}
use borrow.Author.Rules.{rules}
use Rattle.machine.specs.State.{machine_of, is_well_formed}
use Rattle.machine.specs.Steps.{Run, steps_of}
use Rattle.machine.proofs.PairTests.{put_back}
use Rattle.machine.proofs.StaysWellFormed.{stays_well_formed}
use Rattle.machine.proofs.StepByStep.{stopped_settles, counted_settles}
use Rattle.machine.proofs.steps.all_steps.Goals as goal

pub loop-i-init : goal.loop-i-init
unfolding steps_of
loop-i-init c =
    let pre = c.requires in
    (search rules, search rules, pre.2, refl, pre.5, refl)

pub steps_in_mode-after-requires : goal.steps_in_mode-after-requires
steps_in_mode-after-requires c =
    let inv = c.loop-i.invariant in
    let pre = c.requires in (
      pre.0,
      c.loop-i-test.true,
      inv.1,
      pre.1,
      inv.2,
      pre.3,
      omega (arith, inv.3, pre.4),
      inv.4,
    )

pub loop-i-smaller : goal.loop-i-smaller
loop-i-smaller c =
    let report = c.steps_in_mode-after.result.report in
    let counted = counted_settles report.ending report.steps c.args.n (sym c.is_err.ensures.value ∙ c.if-is_err.false) in
    omega (
      arith,
      rw counted.0 at c.steps_in_mode-after.ensures.1,
      c.loop-i-test.true,
    )

pub loop-i-preserved : goal.loop-i-preserved
loop-i-preserved c =
    let loop = c.loop-i in
    let a = c.args in
    let first = machine_of a.start a.stack.now a.pairs a.bytes.now in
    let ran =
    c.steps_in_mode-after.ensures.0 loop.flags first
    (rw (c.pair.ensures, put_back loop.flags loop.c.mode) loop.invariant.5) in
    let report = c.steps_in_mode-after.result.report in
    let counted = counted_settles report.ending report.steps a.n (sym c.is_err.ensures.value ∙ c.if-is_err.false) in (
      rw counted.0 at c.steps_in_mode-after.ensures.2,
      rw counted.0 at c.steps_in_mode-after.ensures.3,
      ap (λ (x : Run). is_well_formed x.machine) ran
          ∙ stays_well_formed.by_steps a.image.now (λ j. (c.type_inv.image j).fits) a.requests.now first
          c.requires.2 _,
      search rules,
      c.steps_in_mode-after.ensures.4,
      rw c.with_pair-flags.ensures (rw (counted.0, counted.1) at ran),
    )

pub returns-then-is_err : goal.returns-then-is_err
returns-then-is_err c =
    let loop = c.loop-i in
    let a = c.args in
    let first = machine_of a.start a.stack.now a.pairs a.bytes.now in
    let report = c.steps_in_mode-after.result.report in
    let settles = stopped_settles report.ending report.steps a.n (sym c.is_err.ensures.value ∙ c.if-is_err.true) in
    let ran =
    c.steps_in_mode-after.ensures.0 loop.flags first
    (rw (c.pair.ensures, put_back loop.flags loop.c.mode) loop.invariant.5) in
    rw c.with_pair-flags.ensures (rw settles at ran)

pub returns : goal.returns
returns c =
    let same : c.loop-i.i ≡ c.args.n = omega
    (arith, c.loop-i.invariant.0, c.loop-i-test.false) in
    rw same at c.loop-i.invariant.5
