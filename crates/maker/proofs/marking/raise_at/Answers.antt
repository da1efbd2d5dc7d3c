-- `marking::raise_at` meets its contract.
use Rattle.maker.proofs.Demands.{is_outside, is_too_deep, is_enough, is_lifted}
use Rattle.maker.proofs.marking.raise_at.Goals as goal

pub returns-in_default : goal.returns-in_default
returns-in_default c = is_outside _ _ _ _ c.in_default.ensures

pub returns-then-need-mark : goal.returns-then-need-mark
returns-then-need-mark c = is_enough _ _ _ c.in-Some.ensures c.if-need-mark.true

pub returns-then-need-gt-MOST_LEVELS : goal.returns-then-need-gt-MOST_LEVELS
returns-then-need-gt-MOST_LEVELS c = is_too_deep _ _ _ _ c.if-need-gt-MOST_LEVELS.true

pub returns : goal.returns
returns c = is_lifted _ _ _ c.in-Some.ensures c.if-need-mark.false c.if-need-gt-MOST_LEVELS.false
