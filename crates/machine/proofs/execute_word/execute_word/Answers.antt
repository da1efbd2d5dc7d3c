-- `execute_word::execute_word` meets its contract.
use mathlib.Core.Path.{◌≡◌, sym, ◌∙◌}
use borrow.Author.Tests.{ltb-true, ltb-false}
use Rattle.isa.specs.declared.Flow.TheVariants as flow
use Rattle.isa.specs.ControlFlow.{flow_of}
use Rattle.isa.specs.Predecoded.{instruction_of_word}
use Rattle.isa.proofs.Words.{above}
use Rattle.control.specs.Transfers.{advance_of}
use Rattle.machine.specs.Execute.{execute_of}
use Rattle.machine.proofs.Stops.{goes}
use Rattle.machine.proofs.execute_word.execute_word.Goals as goal

pub on_transfer-requires : goal.on_transfer-requires
on_transfer-requires c =
    (c.requires, ltb-true _ 12 (sym c.is_transfer.ensures ∙ c.if-is_transfer.true))

pub on_operation-requires : goal.on_operation-requires
on_operation-requires c =
    (c.requires, ltb-false _ 12 (sym c.is_transfer.ensures ∙ c.if-is_transfer.false))

pub returns : goal.returns
unfolding execute_of advance_of
returns c =
    let on : flow_of (instruction_of_word c.args.word) c.args.c.pc ≡ flow.Next =
    above _ _ _ _ _ (ltb-false _ 12 (sym c.is_transfer.ensures ∙ c.if-is_transfer.false)) in
    goes (rw on (c.on_operation.ensures _))
