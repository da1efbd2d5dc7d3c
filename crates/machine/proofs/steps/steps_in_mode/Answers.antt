-- `steps::steps_in_mode` meets its contract. The loop's invariant: the steps up to i completed, whatever they
-- continue; the machine is well formed and the store coherent; as long as the loop goes on the mode and the bank byte
-- are those of its start, and when it ends a step was made.
use mathlib.Core.Path.{refl}
use native.Mathlib.Omega.{arith}
use borrow.Author.Rules.{rules}
use Rattle.isa.proofs.Halves.{same_space}
use Rattle.control.proofs.StaysWellFormed.{formed_exactly}
use Rattle.machine.specs.Pairs.{with_pair_of}
use Rattle.machine.specs.State.{machine_of, cleared_pairs}
use Rattle.machine.proofs.StaysWellFormed.{formed_step}
use Rattle.machine.proofs.StepByStep.{stepped, one_more, idle_to, stops_at}
use Rattle.machine.proofs.steps.steps_in_mode.Goals as goal

pub loop-same-init : goal.loop-same-init
loop-same-init c =
    let pre = c.requires in (
      search rules,
      omega (arith, pre.1),
      pre.2,
      pre.4,
      refl,
      pre.7,
      λ e. (pre.1, refl, refl),
      λ e. grind arith,
      λ pairs m e. e,
    )

pub advance-after-requires : goal.advance-after-requires
advance-after-requires c =
    let inv = c.loop-same.invariant in (
      c.requires.3,
      (formed_exactly.facts _ _ inv.3).pc,
      omega (arith, inv.4, c.requires.6),
      inv.5,
      rw (
        (inv.6 c.loop-same-test.true).2,
        c.page_number-page.ensures c.requires.3,
      )
          (same_space c.args.image.now _),
    )

pub shape_of-store-in-Err : goal.shape_of-store-in-Err
shape_of-store-in-Err c =
    omega (arith, c.loop-same.invariant.4)

pub returns-in-Err : goal.returns-in-Err
returns-in-Err c =
    let loop = c.loop-same in
    let image = c.args.image.now in
    let requests = c.args.requests.now in
    let n = c.args.n in
    let goes = loop.invariant.6 c.loop-same-test.true in (
      λ pairs m e.
          rw (← goes.1)
          (stops_at image requests m _ _ _ _ _ _ goes.0 (rw (← goes.1) at (loop.invariant.8 pairs m e))
          (rw c.in-Err.is at
          (stepped image requests
          (machine_of loop.c loop.stack (with_pair_of pairs loop.c.mode loop.flags) loop.bytes) n
          loop.i _ _ c.requires.3 loop.invariant.3 c.requires.5 goes.0
          c.request_at.ensures
          (c.advance-after.ensures.0 pairs)))),
      omega (arith, goes.0, loop.invariant.0),
      omega arith,
      omega (arith, loop.invariant.2, goes.0),
      c.advance-after.ensures.1,
    )

pub loop-same-smaller : goal.loop-same-smaller
loop-same-smaller c =
    omega (arith, (c.loop-same.invariant.6 c.loop-same-test.true).0)

pub loop-same-preserved : goal.loop-same-preserved
loop-same-preserved c =
    let loop = c.loop-same in
    let image = c.args.image.now in
    let requests = c.args.requests.now in
    let n = c.args.n in
    let goes = loop.invariant.6 c.loop-same-test.true in
    let idle = c.past_idle-i.ensures in
    let formed = formed_step image (λ j. (c.type_inv.image j).fits)
    (machine_of loop.c loop.stack (with_pair_of cleared_pairs loop.c.mode loop.flags) loop.bytes)
    loop.invariant.3 _ _
    (c.advance-after.ensures.0 cleared_pairs) in (
      omega (arith, loop.invariant.0, idle.0),
      idle.1,
      omega (arith, loop.invariant.2, idle.0),
      formed,
      search rules,
      c.advance-after.ensures.1,
      λ e. (
        (c.stays-same.ensures e).0,
        (c.stays-same.ensures e).1,
        (c.stays-same.ensures e).2,
      ),
      λ e. omega (arith, loop.invariant.0, idle.0),
      λ pairs m e.
          idle_to image requests m _ _ n _ _ c.requires.3 formed c.requires.5 idle.0 idle.1 (idle.2 _ _ _)
          (rw (← goes.1)
          (one_more image requests m _ _ _ _ _ (rw (← goes.1) at (loop.invariant.8 pairs m e))
          (rw c.in-Ok.is at
          (stepped image requests
          (machine_of loop.c loop.stack (with_pair_of pairs loop.c.mode loop.flags) loop.bytes) n
          loop.i _ _ c.requires.3 loop.invariant.3 c.requires.5 goes.0
          c.request_at.ensures
          (c.advance-after.ensures.0 pairs))))),
    )

pub returns : goal.returns
returns c =
    let inv = c.loop-same.invariant in (
      inv.8,
      omega (arith, inv.7 c.loop-same-test.false),
      omega (arith, inv.1),
      omega (arith, inv.2),
      inv.5,
    )
