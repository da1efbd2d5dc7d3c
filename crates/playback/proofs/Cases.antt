-- A record of P11, by demand 3 and by computation.
use mathlib.Core.Path.{refl}
use Rattle.isa.specs.Map
use Rattle.isa.specs.Table
use Rattle.isa.specs.Rom
use Rattle.isa.specs.Decode
use Rattle.isa.specs.ControlFlow
use Rattle.control.specs.Stack
use Rattle.control.specs.Transfers
use Rattle.control.specs.Requests
use Rattle.control.specs.WellFormed
use Rattle.data.specs.Effect.{effect_of}
use Rattle.machine.specs.Execute.{execute_of}
use Rattle.machine.specs.State.{reset_of, fresh_of, host_store_of}
use Rattle.machine.specs.Step
use Rattle.certificate.specs.Cases.{image11}
use Rattle.certificate.proofs.Cases.{check_cases}
use Rattle.bench.specs.Calls.{AsksOnly, leaves}
use Rattle.bench.specs.Session.{levels_in_use}
use Rattle.bench.proofs.Unrolled.{none_asks}
use Rattle.playback.specs.Entries.{entries_of}
use Rattle.playback.specs.Record.{body_of, body_in}
use Rattle.playback.specs.Play.{play_from, play_of}
use Rattle.playback.specs.Cases.{entries11, recording11, P11Played}
use Rattle.playback.proofs.Safety.{played_safely}

-- NMI's request asks for NMI alone
nmi_asks : AsksOnly 0x01 0x01
nmi_asks s is = is

pub p11_played : P11Played
unfolding leaves levels_in_use reset_of fresh_of host_store_of Step.step_of Step.action_of Step.due_of
    Step.unrequested_action Step.acted_of Step.executed_of Step.completed_of Step.taken_of Step.taken_by execute_of effect_of
    WellFormed.addresses_fit WellFormed.well_formed Requests.requested_of Requests.serving_of Requests.take_of
    Transfers.call_of Transfers.return_from_interrupt_of Transfers.advance_of Stack.push_of Stack.pop_of
    Map.entry_of Table.bytes_of Table.cycles_of Map.form_as Map.form_of Rom.space_of Rom.page_of Rom.fixed_of Rom.rom_at Rom.operand_at Decode.decode_at
    ControlFlow.flow_of entries_of body_of body_in play_from play_of
p11_played = record {
  within =
      played_safely _ _ 0x01 2 check_cases.p11 recording11 entries11 refl
      (none_asks 1, (none_asks 1, (none_asks 1, (nmi_asks, (tt, (tt, tt))))));
  playing = play_from image11 0 0 fresh_of entries11;
  plays = refl;
  entries = refl;
  cycles = refl;
  ending = refl;
  levels = refl;
}
