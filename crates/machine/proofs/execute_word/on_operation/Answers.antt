-- `execute_word::on_operation` meets its contract.
use mathlib.Core.Path.{◌≡◌, refl, ap, ◌∙◌}
use mathlib.Core.Bool.{false}
use native.Mathlib.Omega.{arith}
use Rattle.std.proofs.lemmas.Grind.{common_steps}
use Rattle.isa.specs.declared.Instruction.{Instruction}
use Rattle.isa.specs.ControlFlow.{flow_of}
use Rattle.isa.specs.declared.Flow.TheVariants as flow
use Rattle.isa.specs.Predecoded.{instruction_of_word}
use Rattle.isa.proofs.Words.{is_next, above, never}
use Rattle.data.specs.Effect.{effect_of}
use Rattle.machine.proofs.execute_word.on_operation.Goals as goal

pub returns-in-Res : goal.returns-in-Res
unfolding effect_of
returns-in-Res c = λ stack. rw (
  c.past.ensures _ stack,
  c.reset_bit.ensures c.requires.0,
  ← c.operation_in.ensures c.requires.1,
  c.in-Res.is,
)

pub returns-in-Set : goal.returns-in-Set
unfolding effect_of
returns-in-Set c = λ stack. rw (
  c.past-in-Set.ensures _ stack,
  c.set_bit.ensures c.requires.0,
  ← c.operation_in.ensures c.requires.1,
  c.in-Set.is,
)

pub returns-in-LoadA : goal.returns-in-LoadA
unfolding effect_of
returns-in-LoadA c = λ stack. rw (
  c.past_on.ensures _ stack,
  c.load.ensures,
  c.operand_by.ensures c.requires.0 refl refl,
  ← c.operation_in.ensures c.requires.1,
  c.in-LoadA.is,
)

pub returns-in-StoreA : goal.returns-in-StoreA
unfolding effect_of
returns-in-StoreA c = λ stack. rw (
  c.past_on-in-StoreA.ensures _ stack,
  c.store_a.ensures,
  c.address_by.ensures c.args.bytes.now refl refl,
  ← c.operation_in.ensures c.requires.1,
  c.in-StoreA.is,
)

pub returns-in-LoadAImmediate : goal.returns-in-LoadAImmediate
unfolding effect_of
returns-in-LoadAImmediate c = λ stack. rw (
  c.past-in-LoadAImmediate.ensures _ stack,
  c.load-in-LoadAImmediate.ensures,
  ← c.operation_in.ensures c.requires.1,
  c.in-LoadAImmediate.is,
)

pub returns-in-LoadImmediate : goal.returns-in-LoadImmediate
unfolding effect_of
returns-in-LoadImmediate c = λ stack. rw (
  c.past-in-LoadImmediate.ensures _ stack,
  c.store_immediate.ensures,
  ← c.operation_in.ensures c.requires.1,
  c.in-LoadImmediate.is,
)

pub returns-in-Inc : goal.returns-in-Inc
unfolding effect_of
returns-in-Inc c = λ stack. rw (
  c.past_on-in-Inc.ensures _ stack,
  c.increment.ensures c.requires.0,
  c.address_by-in-Inc.ensures c.args.bytes.now refl refl,
  ← c.operation_in.ensures c.requires.1,
  c.in-Inc.is,
)

pub returns-in-Dec : goal.returns-in-Dec
unfolding effect_of
returns-in-Dec c = λ stack. rw (
  c.past_on-in-Dec.ensures _ stack,
  c.decrement.ensures c.requires.0,
  c.address_by-in-Dec.ensures c.args.bytes.now refl refl,
  ← c.operation_in.ensures c.requires.1,
  c.in-Dec.is,
)

pub returns-in-Add : goal.returns-in-Add
unfolding effect_of
returns-in-Add c = λ stack. rw (
  c.past_on-in-Add.ensures _ stack,
  c.add.ensures,
  c.operand_by-in-Add.ensures c.requires.0 refl refl,
  ← c.operation_in.ensures c.requires.1,
  c.in-Add.is,
)

pub returns-in-AddImmediate : goal.returns-in-AddImmediate
unfolding effect_of
returns-in-AddImmediate c = λ stack. rw (
  c.past-in-AddImmediate.ensures _ stack,
  c.add-in-AddImmediate.ensures,
  ← c.operation_in.ensures c.requires.1,
  c.in-AddImmediate.is,
)

pub returns-in-Sub : goal.returns-in-Sub
unfolding effect_of
returns-in-Sub c = λ stack. rw (
  c.past_on-in-Sub.ensures _ stack,
  c.subtract.ensures,
  c.operand_by-in-Sub.ensures c.requires.0 refl refl,
  ← c.operation_in.ensures c.requires.1,
  c.in-Sub.is,
)

pub returns-in-SubImmediate : goal.returns-in-SubImmediate
unfolding effect_of
returns-in-SubImmediate c = λ stack. rw (
  c.past-in-SubImmediate.ensures _ stack,
  c.subtract-in-SubImmediate.ensures,
  ← c.operation_in.ensures c.requires.1,
  c.in-SubImmediate.is,
)

pub returns-in-And : goal.returns-in-And
unfolding effect_of
returns-in-And c = λ stack. rw (
  c.past_on-in-And.ensures _ stack,
  c.and.ensures,
  c.operand_by-in-And.ensures c.requires.0 refl refl,
  ← c.operation_in.ensures c.requires.1,
  c.in-And.is,
)

pub returns-in-AndImmediate : goal.returns-in-AndImmediate
unfolding effect_of
returns-in-AndImmediate c = λ stack. rw (
  c.past-in-AndImmediate.ensures _ stack,
  c.and-in-AndImmediate.ensures,
  ← c.operation_in.ensures c.requires.1,
  c.in-AndImmediate.is,
)

pub returns-in-Cp : goal.returns-in-Cp
unfolding effect_of
returns-in-Cp c = λ stack. rw (
  c.past_on-in-Cp.ensures _ stack,
  c.compare.ensures,
  c.operand_by-in-Cp.ensures c.requires.0 refl refl,
  ← c.operation_in.ensures c.requires.1,
  c.in-Cp.is,
)

pub returns-in-CpImmediate : goal.returns-in-CpImmediate
unfolding effect_of
returns-in-CpImmediate c = λ stack. rw (
  c.past-in-CpImmediate.ensures _ stack,
  c.compare-in-CpImmediate.ensures,
  ← c.operation_in.ensures c.requires.1,
  c.in-CpImmediate.is,
)

pub returns-in-Com : goal.returns-in-Com
unfolding effect_of
returns-in-Com c = λ stack. rw (
  c.past-in-Com.ensures _ stack,
  c.complement.ensures,
  ← c.operation_in.ensures c.requires.1,
  c.in-Com.is,
)

pub returns-in-Rlc : goal.returns-in-Rlc
unfolding effect_of
returns-in-Rlc c = λ stack. rw (
  c.past-in-Rlc.ensures _ stack,
  c.rotate.ensures,
  ← c.operation_in.ensures c.requires.1,
  c.in-Rlc.is,
)

pub returns-in_default : goal.returns-in_default
unfolding flow_of
returns-in_default c = λ stack.
    (let on : flow_of (instruction_of_word c.args.word) 0 ≡ flow.Next = above _ _ _ 0 _ c.requires.1 in
    let off : is_next (flow_of c.operation_in.result 0) ≡ false = grind (arith, common_steps) in
    absurd (never (ap (λ (i : Instruction). flow_of i 0) (c.operation_in.ensures c.requires.1) ∙ on) off))
