-- `execute_word::on_transfer` meets its contract.
use borrow.Author.Rules.{rules}
use mathlib.Core.Path.{◌≡◌, ap, ◌∙◌}
use native.Mathlib.Omega.{arith}
use Rattle.std.proofs.lemmas.Grind.{common_steps}
use Rattle.isa.specs.declared.Flow.TheVariants as flow
use Rattle.isa.specs.declared.Instruction.{Instruction}
use Rattle.isa.specs.ControlFlow.{flow_of}
use Rattle.isa.proofs.Words.{is_next, below, never}
use Rattle.data.specs.Effect.{data_of, effect_of}
use Rattle.control.specs.Transfers.{advance_of}
use Rattle.machine.specs.Execute.{execute_of}
use Rattle.machine.proofs.Stops.{goes, goes_by}
use Rattle.machine.proofs.execute_word.on_transfer.Goals as goal

pub returns-in-Jrnz : goal.returns-in-Jrnz
unfolding execute_of advance_of flow_of effect_of
returns-in-Jrnz c =
    goes
    (rw (c.short.ensures _ _, ← c.transfer_in.ensures c.requires.1, c.in-Jrnz.is)
    (search rules))

pub returns-in-Jrnc : goal.returns-in-Jrnc
unfolding execute_of advance_of flow_of effect_of
returns-in-Jrnc c =
    goes
    (rw (c.short-in-Jrnc.ensures _ _, ← c.transfer_in.ensures c.requires.1, c.in-Jrnc.is)
    (search rules))

pub returns-in-Jrz : goal.returns-in-Jrz
unfolding execute_of advance_of flow_of effect_of
returns-in-Jrz c =
    goes
    (rw (c.short-in-Jrz.ensures _ _, ← c.transfer_in.ensures c.requires.1, c.in-Jrz.is)
    (search rules))

pub returns-in-Jrc : goal.returns-in-Jrc
unfolding execute_of advance_of flow_of effect_of
returns-in-Jrc c =
    goes
    (rw (c.short-in-Jrc.ensures _ _, ← c.transfer_in.ensures c.requires.1, c.in-Jrc.is)
    (search rules))

pub returns-in-Call : goal.returns-in-Call
unfolding execute_of advance_of flow_of effect_of
returns-in-Call c =
    c.transferred.ensures _ _ _
    ∙ goes_by (data_of c.args.bytes.now c.args.flags) _ _ _ _ c.call.ensures
    ∙ rw (
      c.forward.ensures,
      ← c.transfer_in.ensures c.requires.1,
      c.in-Call.is,
    )

pub returns-in-Jp : goal.returns-in-Jp
unfolding execute_of advance_of flow_of effect_of
returns-in-Jp c =
    goes
    (rw (
      c.goes_on.ensures _ _,
      c.with_pc.ensures,
      ← c.transfer_in.ensures c.requires.1,
      c.in-Jp.is,
    ))

pub returns-in-Jrr : goal.returns-in-Jrr
unfolding execute_of advance_of flow_of effect_of
returns-in-Jrr c =
    goes
    (rw (c.long.ensures _ _, c.test_bit-after.ensures c.requires.0)
    (rw (← c.transfer_in.ensures c.requires.1, c.in-Jrr.is)
    (search rules)))

pub returns-in-Jrs : goal.returns-in-Jrs
unfolding execute_of advance_of flow_of effect_of
returns-in-Jrs c =
    goes
    (rw (c.long-in-Jrs.ensures _ _, c.test_bit-after-in-Jrs.ensures c.requires.0)
    (rw (← c.transfer_in.ensures c.requires.1, c.in-Jrs.is)
    (search rules)))

pub returns-in-Ret : goal.returns-in-Ret
unfolding execute_of advance_of flow_of effect_of
returns-in-Ret c =
    c.transferred-in-Ret.ensures _ _ _
    ∙ goes_by (data_of c.args.bytes.now c.args.flags) _ _ _ _ c.pop.ensures
    ∙ rw (← c.transfer_in.ensures c.requires.1, c.in-Ret.is)

pub returns-in-Reti : goal.returns-in-Reti
unfolding execute_of advance_of flow_of effect_of
returns-in-Reti c =
    c.transferred-in-Reti.ensures _ _ _
    ∙ goes_by (data_of c.args.bytes.now c.args.flags) _ _ _ _ c.return_from_interrupt.ensures
    ∙ rw (
      c.forward-in-Reti.ensures,
      ← c.transfer_in.ensures c.requires.1,
      c.in-Reti.is,
    )

pub returns-in-Stop : goal.returns-in-Stop
unfolding execute_of advance_of flow_of effect_of
returns-in-Stop c =
    goes
    (rw (
      c.goes_on-in-Stop.ensures _ _,
      c.sleep.ensures,
      c.forward-in-Stop.ensures,
      ← c.transfer_in.ensures c.requires.1,
      c.in-Stop.is,
    ))

pub returns-in-Wait : goal.returns-in-Wait
unfolding execute_of advance_of flow_of effect_of
returns-in-Wait c =
    goes
    (rw (
      c.goes_on-in-Wait.ensures _ _,
      c.sleep-in-Wait.ensures,
      c.forward-in-Wait.ensures,
      ← c.transfer_in.ensures c.requires.1,
      c.in-Wait.is,
    ))

pub returns-in_default : goal.returns-in_default
unfolding flow_of
returns-in_default c =
    let on : flow_of c.transfer_in.result 0 ≡ flow.Next = grind (arith, common_steps) in
    absurd
    (never on (ap (λ (i : Instruction). is_next (flow_of i 0)) (c.transfer_in.ensures c.requires.1)
    ∙ below _ _ _ 0 _ c.requires.1))
