-- The bench cases hold: each by computing the definitions.
use mathlib.Core.Path.{refl}
use Rattle.isa.specs.Rom.{rom_at, operand_at, fixed_of, page_of, space_of}
use Rattle.isa.specs.Decode.{decode_at}
use Rattle.isa.specs.Table.{bytes_of, cycles_of}
use Rattle.isa.specs.Map.{entry_of, form_as, form_of}
use Rattle.isa.specs.ControlFlow.{flow_of}
use Rattle.data.specs.Space.{read_of, store_of, address_of, operand_of}
use Rattle.data.specs.Effect.{store_result_of, effect_of}
use Rattle.control.specs.Stack.{push_of}
use Rattle.control.specs.Transfers.{call_of, advance_of}
use Rattle.control.specs.Requests.{requested_of}
use Rattle.control.specs.WellFormed.{addresses_fit, well_formed}
use Rattle.machine.specs.Execute.{execute_of}
use Rattle.machine.specs.Step.{unrequested_action, due_of, action_of, completed_of, executed_of, acted_of, step_of}
use Rattle.certificate.proofs.Cases.{check_cases}
use Rattle.bench_cases.specs.BenchCases.{BenchCases}

pub bench_cases : BenchCases
unfolding step_of action_of due_of unrequested_action acted_of executed_of completed_of execute_of well_formed addresses_fit
    requested_of advance_of call_of push_of effect_of store_result_of operand_of address_of store_of read_of flow_of form_of form_as
    cycles_of bytes_of entry_of decode_at operand_at rom_at space_of page_of fixed_of
bench_cases = record {
  p1 = record { byte = refl; flags = refl; answer = refl };
  p2 = record { byte = refl; flags = refl; answer = refl };
  p3 = record { byte = refl; flags = refl; answer = refl };
  p4 = record {
    below = record { byte = refl; flags = refl; answer = refl };
    equal = record { byte = refl; flags = refl; answer = refl };
  };
  p5 = record { byte = refl; flags = refl; answer = refl };
  p6 = record { byte = refl; flags = refl; answer = refl };
  p7 = record {
    forward = record { there = refl; stack = refl; answer = refl };
    back = record { there = refl; stack = refl; answer = refl };
    itself = record { there = refl; stack = refl; answer = refl };
  };
  p8 = record { there = refl; stack = refl; answer = refl };
  p9 = record { there = refl; stack = refl; answer = refl };
  p10 = record {
    calls = record { there = refl; stack = refl; answer = refl };
    jumps = record { there = refl; stack = refl; answer = refl };
  };
  p11 = check_cases.p11;
  p12 = check_cases.p12;
}
