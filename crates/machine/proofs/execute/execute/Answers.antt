-- `execute::execute` meets its contract.
use borrow.Author.Rules.{rules}
use mathlib.Core.Path.{◌≡◌, ◌∙◌}
use native.Mathlib.Omega.{arith}
use Rattle.std.proofs.lemmas.Grind.{common_steps}
use Rattle.isa.specs.declared.Flow.TheVariants as flow
use Rattle.isa.specs.ControlFlow.{flow_of}
use Rattle.data.specs.Effect.{data_of, effect_of}
use Rattle.control.specs.Transfers.{advance_of}
use Rattle.machine.specs.Execute.{execute_of}
use Rattle.machine.proofs.Stops.{goes, goes_by}
use Rattle.machine.proofs.execute.execute.Goals as goal

pub returns-in-Jrnz : goal.returns-in-Jrnz
unfolding execute_of advance_of flow_of effect_of
returns-in-Jrnz c =
    goes
    (rw (
      c.goes_on.ensures _ _,
      c.branch-c.ensures,
      c.short_target.ensures,
      c.in-Jrnz.is,
    )
    (search rules))

pub returns-in-Jrnc : goal.returns-in-Jrnc
unfolding execute_of advance_of flow_of effect_of
returns-in-Jrnc c =
    goes
    (rw (
      c.goes_on-in-Jrnc.ensures _ _,
      c.branch-c-in-Jrnc.ensures,
      c.short_target-in-Jrnc.ensures,
      c.in-Jrnc.is,
    )
    (search rules))

pub returns-in-Jrz : goal.returns-in-Jrz
unfolding execute_of advance_of flow_of effect_of
returns-in-Jrz c =
    goes
    (rw (
      c.goes_on-in-Jrz.ensures _ _,
      c.branch-c-in-Jrz.ensures,
      c.short_target-in-Jrz.ensures,
      c.in-Jrz.is,
    )
    (search rules))

pub returns-in-Jrc : goal.returns-in-Jrc
unfolding execute_of advance_of flow_of effect_of
returns-in-Jrc c =
    goes
    (rw (
      c.goes_on-in-Jrc.ensures _ _,
      c.branch-c-in-Jrc.ensures,
      c.short_target-in-Jrc.ensures,
      c.in-Jrc.is,
    )
    (search rules))

pub returns-in-Call : goal.returns-in-Call
unfolding execute_of advance_of flow_of effect_of
returns-in-Call c =
    let a = c.args in
    c.transferred.ensures _ _ _ ∙ goes_by (data_of a.bytes.now a.flags) _ _ _ _ c.call.ensures
    ∙ rw c.in-Call.is

pub returns-in-Jp : goal.returns-in-Jp
unfolding execute_of advance_of flow_of effect_of
returns-in-Jp c =
    goes
    (rw (c.goes_on-in-Jp.ensures _ _, c.with_pc.ensures, c.in-Jp.is))

pub returns-in-Jrr : goal.returns-in-Jrr
unfolding execute_of advance_of flow_of effect_of
returns-in-Jrr c =
    goes
    (rw (
      c.goes_on-in-Jrr.ensures _ _,
      c.branch-c-in-Jrr.ensures,
      c.long_target.ensures,
      c.test_bit-after.ensures c.requires,
    )
    (rw c.in-Jrr.is (search rules)))

pub returns-in-Jrs : goal.returns-in-Jrs
unfolding execute_of advance_of flow_of effect_of
returns-in-Jrs c =
    goes
    (rw (
      c.goes_on-in-Jrs.ensures _ _,
      c.branch-c-in-Jrs.ensures,
      c.long_target-in-Jrs.ensures,
      c.test_bit-after-in-Jrs.ensures c.requires,
    )
    (rw c.in-Jrs.is (search rules)))

pub returns-in-Ret : goal.returns-in-Ret
unfolding execute_of advance_of flow_of effect_of
returns-in-Ret c =
    let a = c.args in
    c.transferred-in-Ret.ensures _ _ _ ∙ goes_by (data_of a.bytes.now a.flags) _ _ _ _ c.pop.ensures
    ∙ rw c.in-Ret.is

pub returns-in-Reti : goal.returns-in-Reti
unfolding execute_of advance_of flow_of effect_of
returns-in-Reti c =
    let a = c.args in
    c.transferred-in-Reti.ensures _ _ _
    ∙ goes_by (data_of a.bytes.now a.flags) _ _ _ _ c.return_from_interrupt.ensures
    ∙ rw c.in-Reti.is

pub returns-in-Stop : goal.returns-in-Stop
unfolding execute_of advance_of flow_of effect_of
returns-in-Stop c =
    goes
    (rw (c.goes_on-in-Stop.ensures _ _, c.sleep.ensures, c.in-Stop.is))

pub returns-in-Wait : goal.returns-in-Wait
unfolding execute_of advance_of flow_of effect_of
returns-in-Wait c =
    goes
    (rw (c.goes_on-in-Wait.ensures _ _, c.sleep-in-Wait.ensures, c.in-Wait.is))

pub returns-in_default : goal.returns-in_default
unfolding execute_of advance_of flow_of
returns-in_default c =
    let a = c.args in
    let on : flow_of a.instruction a.c.pc ≡ flow.Next = grind (arith, common_steps) in
    goes (rw on (c.on_data.ensures _))
