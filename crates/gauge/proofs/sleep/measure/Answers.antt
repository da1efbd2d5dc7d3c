-- `sleep::measure` meets its contract: a run after i runs finds whether the machine sleeps within it.
use Rattle.std.proofs.Common.{◌≡◌, ◌≤◌, ◌+◌, ◌*◌, refl, sym, ap, ◌∙◌, arith}
use Rattle.machine.specs.Run.{ran_of, steps_of}
use Rattle.gauge.specs.Sleep.{machine_after, asleep_after}
use Rattle.gauge.proofs.Runs.{never, run_on, asleep_then, sleeps_within, found}
use Rattle.gauge.proofs.sleep.measure.Goals as goal

pub loop-i-init : goal.loop-i-init
unfolding steps_of
loop-i-init c = record { reached = refl; awake = c.requires.awake }

pub first_sleep-slept-requires : goal.first_sleep-slept-requires
first_sleep-slept-requires c =
    let loop = c.loop-i in
    let room : loop.i * 1285 + 1285 ≤ 65535 = omega arith in
    let finds = asleep_then c.args.image.now c.args.m c.requires (loop.i * 1285) room loop.held
    loop.invariant.reached (ran_of c.run.result) c.run.ensures in
    sleeps_within c.args.image.now c.args.m c.requires (loop.i * 1285) room loop.held
    loop.invariant.reached (finds ∙ c.if-after.true)

pub returns-then-after : goal.returns-then-after
returns-then-after c =
    let loop = c.loop-i in
    let room : loop.i * 1285 + 1285 ≤ 65535 = omega arith in
    found c.args.image.now c.args.m c.requires (loop.i * 1285) room loop.held
    loop.invariant.reached loop.invariant.awake c.first_sleep-slept.result.width c.first_sleep-slept.result.steps
    c.first_sleep-slept.ensures

pub loop-i-preserved : goal.loop-i-preserved
loop-i-preserved c =
    let loop = c.loop-i in
    let room : loop.i * 1285 + 1285 ≤ 65535 = omega arith in
    let finds = asleep_then c.args.image.now c.args.m c.requires (loop.i * 1285) room loop.held
    loop.invariant.reached (ran_of c.run.result) c.run.ensures in
    let next : loop.i * 1285 + 1285 ≡ (loop.i + 1) * 1285 = omega arith in
    record {
      reached =
          run_on c.args.image.now c.args.m c.requires (loop.i * 1285) room loop.held loop.invariant.reached
          (ran_of c.run.result) c.run.ensures
          ∙ ap (machine_after c.args.image.now c.args.m) next;
      awake = ap (asleep_after c.args.image.now c.args.m) (sym next) ∙ finds ∙ c.if-after.false;
    }

pub returns : goal.returns
returns c =
    let loop = c.loop-i in
    let all : loop.i * 1285 ≡ 65535 = omega arith in
    sym (never c.args.image.now c.args.m c.requires
    (ap (asleep_after c.args.image.now c.args.m) (sym all) ∙ loop.invariant.awake))
