-- `fields::of_form` meets its contract. A form past the others is beyond their list.
use Prim.Native.Nat.{◌≤◌}
use native.Mathlib.Omega.{arith}
use lib.ListN.{get_or-eq_default}
use Rattle.exports.specs.Fields.{instruction_by, instructions}
use Rattle.exports.proofs.fields.of_form.Goals as goal

pub returns-in_default : goal.returns-in_default
unfolding instruction_by instructions
returns-in_default c =
    let past : 29 ≤ c.args.form = omega arith in
    rw (get_or-eq_default _ _ past)
