-- Demand 3 of P11's image and certificate.
use mathlib.Core.Path.{refl}
use Rattle.isa.specs.Map
use Rattle.isa.specs.Table
use Rattle.isa.specs.Rom
use Rattle.isa.specs.Decode
use Rattle.isa.specs.ControlFlow
use Rattle.control.specs.Stack
use Rattle.control.specs.Transfers
use Rattle.control.specs.Requests
use Rattle.control.specs.WellFormed
use Rattle.data.specs.Effect.{effect_of}
use Rattle.machine.specs.Execute.{execute_of}
use Rattle.machine.specs.State.{reset_of, fresh_of}
use Rattle.machine.specs.Step
use Rattle.machine.specs.Run.{steps_of, requests_fit, run_of}
use Rattle.certificate.proofs.Cases.{check_cases}
use Rattle.bench.specs.Calls.{leaves}
use Rattle.bench.specs.Session.{levels_in_use}
use Rattle.bench.specs.Cases.{P11NeverStops, P11UsesTwo}
use Rattle.bench.proofs.Session.{never_stops}

pub p11_never_stops : P11NeverStops
p11_never_stops = never_stops _ _ 0x01 2 check_cases.p11

pub p11_uses_two : P11UsesTwo
unfolding leaves levels_in_use run_of requests_fit steps_of reset_of fresh_of Step.step_of Step.action_of Step.due_of
    Step.unrequested_action Step.acted_of Step.executed_of Step.completed_of Step.taken_of Step.taken_by execute_of effect_of
    WellFormed.addresses_fit WellFormed.well_formed Requests.requested_of Requests.serving_of Requests.take_of
    Transfers.call_of Transfers.return_from_interrupt_of Transfers.advance_of Stack.push_of Stack.pop_of
    Map.entry_of Table.bytes_of Table.cycles_of Map.form_as Map.form_of Rom.space_of Rom.page_of Rom.fixed_of Rom.rom_at Rom.operand_at
    Decode.decode_at
    ControlFlow.flow_of
p11_uses_two = refl
