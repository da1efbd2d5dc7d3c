-- `marking::demand` meets its contract.
use mathlib.Core.Logic.{inl, inr}
use Rattle.maker.proofs.Demands.{is_outside, is_too_deep, is_clash, is_raised, is_met}
use Rattle.maker.proofs.marking.demand.Goals as goal
use Rattle.maker.proofs.marking.demand.Goals.{else-mark-ne0-via-then-mark-ne0+else-mark-digit, else-mark-ne0-via-else-mark-ne0}

pub returns-in_default : goal.returns-in_default
returns-in_default g c = is_outside _ _ _ _ c.in_default.ensures

pub returns-then-need-gt-MOST_LEVELS : goal.returns-then-need-gt-MOST_LEVELS
returns-then-need-gt-MOST_LEVELS g c = is_too_deep _ _ _ _ c.if-need-gt-MOST_LEVELS.true

pub returns-then-mark-digit : goal.returns-then-mark-digit
returns-then-mark-digit g c = is_clash _ _ _ _ c.in-Some.ensures c.if-mark-ne0.true (rw c.number-digit.ensures at c.if-mark-digit.true)

pub returns-then-wanted-mark : goal.returns-then-wanted-mark
returns-then-wanted-mark g c =
    is_met _ _ _ _ c.in-Some.ensures
    (elim c.else-mark-ne0.branch [
      | else-mark-ne0-via-then-mark-ne0+else-mark-digit w ↦ inr (rw c.number-digit.ensures at w.if-mark-digit.false)
      | else-mark-ne0-via-else-mark-ne0 w ↦ inl w.if-mark-ne0.false
    ])
    (rw c.number-digit.ensures at c.if-wanted-mark.true)

pub returns : goal.returns
returns g c =
    rw c.number-digit.ensures
    (is_raised _ _ _ _ c.in-Some.ensures
    (elim c.else-mark-ne0.branch [
      | else-mark-ne0-via-then-mark-ne0+else-mark-digit w ↦ inr (rw c.number-digit.ensures at w.if-mark-digit.false)
      | else-mark-ne0-via-else-mark-ne0 w ↦ inl w.if-mark-ne0.false
    ])
    (rw c.number-digit.ensures at c.if-wanted-mark.false) c.if-need-gt-MOST_LEVELS.false)
