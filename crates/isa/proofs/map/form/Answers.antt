-- `map::form` meets its contract: the low digit picks the column, whose rule computes.
use borrow.Author.Rules.{rules}
use mathlib.Core.Logic.{⊎_elim}
use mir.Syntax.{w8}
use mir.Val.{SFits}
use Rattle.isa.specs.Map.{form_of, form_as, entry_of}
use Rattle.isa.proofs.Finite.{kept}
use Rattle.isa.proofs.map.form.Goals as goal

pub returns-in-2 : goal.returns-in-2
unfolding form_of form_as entry_of
returns-in-2 c =
    let fits : SFits w8 c.short_displacement-in-2.result = search rules in
    rw (kept fits, c.short_displacement-in-2.ensures) (⊎_elim (λ e. rw e) (λ e. rw e) c.in-2.is)

pub returns-in-5 : goal.returns-in-5
returns-in-5 c = c.column_5.ensures _ _

pub returns-in-7 : goal.returns-in-7
returns-in-7 c = c.column_7.ensures _

pub returns-in-11 : goal.returns-in-11
returns-in-11 c = c.column_b.ensures _

pub returns-in_default : goal.returns-in_default
returns-in_default c = c.column_f.ensures _
