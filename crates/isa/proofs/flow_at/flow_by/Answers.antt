-- `flow_at::flow_by` meets its contract: the low digit picks the column; the columns of the last arm all go on at the
-- next address.
use borrow.Author.Rules.{rules}
use mathlib.Core.Path.{refl}
use mathlib.Core.Logic.{⊎_elim}
use Prim.Native.Nat.{◌%◌}
use native.Mathlib.Omega.{arith}
use mir.Syntax.{w8}
use mir.Val.{SFits}
use Rattle.isa.specs.Map.{form_of, form_as, entry_of}
use Rattle.isa.specs.ControlFlow.{flow_of}
use Rattle.isa.proofs.Finite.{kept}
use Rattle.isa.proofs.PlainColumns.{by_digit}
use Rattle.isa.proofs.flow_at.flow_by.Goals as goal

pub returns-in-2 : goal.returns-in-2
unfolding form_of form_as entry_of flow_of
returns-in-2 c =
    let fits : SFits w8 c.short_displacement-in-2.result = search rules in
    rw (
      c.short-in-2.ensures,
      kept fits,
      c.short_displacement-in-2.ensures,
    )
    (⊎_elim (λ e. rw e) (λ e. rw e) c.in-2.is)

pub returns-in-13 : goal.returns-in-13
returns-in-13 c = c.column_d.ensures _ _ _

pub returns-in_default : goal.returns-in_default
returns-in_default c =
    by_digit (c.args.opcode % 16) (omega arith) c.args.opcode c.ranges.opcode.fits refl
    c.in_default.in_default-own.rest _ _ _
