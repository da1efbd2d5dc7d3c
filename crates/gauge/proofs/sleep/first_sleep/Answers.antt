-- `sleep::first_sleep` meets its contract: the step after the machine held is one of those until it sleeps.
use Rattle.std.proofs.Common.{◌≡◌, refl, ap, ◌∙◌, arith, below_more}
use Rattle.machine.specs.Run.{steps_of}
use Rattle.gauge.specs.Sleep.{width_shown}
use Rattle.gauge.proofs.Sleeper.{found_after, stepped_on}
use Rattle.gauge.proofs.sleep.first_sleep.Goals as goal

pub loop-steps-init : goal.loop-steps-init
unfolding steps_of
loop-steps-init c = record { reached = refl; awake = λ n h. absurd (omega arith) }

pub returns-then-held : goal.returns-then-held
returns-then-held c =
    let loop = c.loop-steps in
    record {
      within = omega arith;
      asleep = found_after _ _ _ _ loop.invariant.reached ∙ c.if-held.true;
      awake = loop.invariant.awake;
      shows = c.width_shown.ensures ∙ ap width_shown loop.invariant.reached;
    }

pub loop-steps-preserved : goal.loop-steps-preserved
loop-steps-preserved c =
    let loop = c.loop-steps in
    record {
      reached =
          stepped_on _ _ 1285 c.requires.all_done _ _ c.loop-steps-test.true loop.invariant.reached _
          c.step.ensures.0;
      awake = below_more _ _ loop.invariant.awake (found_after _ _ _ _ loop.invariant.reached ∙ c.if-held.false);
    }

pub returns : goal.returns
returns c =
    let loop = c.loop-steps in
    let all : loop.steps ≡ 1285 = omega arith in
    record {
      within = omega arith;
      asleep = c.requires.asleep;
      awake = rw all at loop.invariant.awake;
      shows = c.width_shown-2.ensures ∙ ap width_shown (rw all at loop.invariant.reached);
    }
