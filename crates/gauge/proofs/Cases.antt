-- Each of the gauge's three answers, for every count.
use Prim.Native.Nat.{ℕ, zero, suc, ◌<◌, ◌≤◌}
use mathlib.Core.Path.{◌≡◌, refl, sym, ap, ◌∙◌}
use native.Mathlib.Omega.{arith}
use lib.ListN.{get_or}
use Rattle.isa.specs.Map
use Rattle.isa.specs.Table
use Rattle.isa.specs.Rom
use Rattle.isa.specs.Decode
use Rattle.isa.specs.ControlFlow
use Rattle.isa.specs.Refusals.{located}
use Rattle.control.specs.Transfers
use Rattle.control.specs.Requests
use Rattle.control.specs.WellFormed
use Rattle.data.specs.Effect
use Rattle.data.specs.Space
use Rattle.machine.specs.declared.Machine.{Machine}
use Rattle.machine.specs.Execute.{execute_of}
use Rattle.machine.specs.State.{host_store_of, reset_of, fresh_of}
use Rattle.machine.specs.Step
use Rattle.machine.specs.Step.{step_of}
use Rattle.machine.specs.Run.{steps_of}
use Rattle.certificate.specs.Marks
use Rattle.certificate.specs.Successors
use Rattle.certificate.specs.Levels
use Rattle.certificate.specs.Vectors.{vectors_found, source_found, vector_found}
use Rattle.certificate.specs.Cases.{blank}
use Rattle.certificate.specs.Check.{check_of, marks_found, mark_found, pages_found, decoded_found, flow_found}
use Rattle.gauge.specs.Sleep.{machine_after, AwakeAfter, AsleepAfter, Ready}
use Rattle.gauge.specs.Width.{start_of}
use Rattle.gauge.specs.Outcomes.{Accepted, NotChecked, Measured, NeverSlept}
use Rattle.gauge.specs.Cases.{
  copying_image,
  copying_certificate,
  endless_image,
  endless_certificate,
  WidthCases,
}
use Rattle.gauge.proofs.Sleeper.{one_further}
use Rattle.gauge.proofs.NeverStops.{ready, checked}
use Rattle.gauge.proofs.Outcomes.{exactly_one}

-- what the check says of the three
record Checks : Type 0 where
  copying : Accepted copying_image copying_certificate
  endless : Accepted endless_image endless_certificate
  unmarked : NotChecked copying_image blank

checks : Checks
unfolding check_of marks_found mark_found pages_found decoded_found flow_found vectors_found source_found vector_found Marks.mark_at
    Marks.kind_at Marks.need_at Successors.placed Successors.successors_of Successors.all_have_kind Successors.covers_all
    Successors.successors_found Levels.source_levels Levels.levels_for Levels.levels_of Map.entry_of Table.bytes_of
    Table.cycles_of Map.form_as Map.form_of Rom.rom_at Rom.space_of Rom.page_of Rom.fixed_of Rom.operand_at Decode.decode_at ControlFlow.flow_of
checks =
    record {
      copying = record { levels = 0; accepts = refl };
      endless = record { levels = 0; accepts = refl };
      unmarked = record { refusal = located 18 0xFFE; refuses = refl };
    }

-- the four steps of the first program
record Copies (count : ℕ) : Type 0 where
  awake : (n : ℕ) → n < 4 → AwakeAfter copying_image (start_of count) n
  asleep : AsleepAfter copying_image (start_of count) 4
  high : get_or (machine_after copying_image (start_of count) 4).bytes 0x84 0 ≡ 0
  low : get_or (machine_after copying_image (start_of count) 4).bytes 0x85 0 ≡ count

copies : (count : ℕ) → Copies count
unfolding start_of host_store_of reset_of fresh_of steps_of Step.step_of Step.action_of Step.due_of
    Step.unrequested_action Step.acted_of Step.executed_of Step.completed_of execute_of Effect.effect_of
    Effect.store_result_of Space.operand_of
    Space.address_of Space.read_of Space.store_of WellFormed.addresses_fit WellFormed.well_formed Requests.requested_of
    Transfers.advance_of Transfers.slept_of Map.entry_of Table.bytes_of Table.cycles_of Map.form_as Map.form_of Rom.rom_at
    Rom.space_of Rom.page_of Rom.fixed_of Rom.operand_at Decode.decode_at ControlFlow.flow_of
copies count = record { awake = by_step; asleep = refl; high = refl; low = refl }
  where
    by_step : (n : ℕ) → n < 4 → AwakeAfter copying_image (start_of count) n
    by_step zero h = refl
    by_step (suc zero) h = refl
    by_step (suc (suc zero)) h = refl
    by_step (suc (suc (suc zero))) h = refl
    by_step (suc (suc (suc (suc n)))) h = absurd (omega arith)

copied : (count : ℕ) → Measured copying_image copying_certificate count count 4
copied count =
    let c = copies count in
    record {
      accepted = checks.copying;
      least = omega arith;
      most = omega arith;
      asleep = c.asleep;
      awake = c.awake;
      all_done = λ n h.
          (ready copying_image copying_certificate _ (checked copying_image copying_certificate checks.copying.accepts) count).all_done n (omega arith);
      shows = omega (arith, c.high, c.low);
    }

-- a step of the other program leaves the machine as it was
stays : (count : ℕ) → (step_of endless_image (start_of count) 0).machine ≡ start_of count
unfolding start_of host_store_of Space.store_of reset_of fresh_of Step.step_of Step.action_of Step.due_of
    Step.unrequested_action Step.acted_of Step.executed_of Step.completed_of execute_of Effect.effect_of
    WellFormed.addresses_fit
    WellFormed.well_formed Requests.requested_of Transfers.advance_of Map.entry_of Table.bytes_of Table.cycles_of Map.form_as
    Map.form_of Rom.rom_at Rom.space_of Rom.page_of Rom.fixed_of Rom.operand_at Decode.decode_at ControlFlow.flow_of
stays count = refl

module _ (count : ℕ) where
  r : Ready endless_image (start_of count)
  r = ready endless_image endless_certificate _ (checked endless_image endless_certificate checks.endless.accepts) count

  stays_on : (n : ℕ) → n ≤ 65535 → machine_after endless_image (start_of count) n ≡ start_of count
  unfolding steps_of
  stays_on zero h = refl
  stays_on (suc n) h =
      sym (one_further endless_image (start_of count) 65535 r.all_done n (omega arith))
      ∙ ap (λ (m : Machine). (step_of endless_image m 0).machine) (stays_on n (omega arith)) ∙ stays count

  awake : NeverSlept endless_image endless_certificate count
  awake =
      record {
        accepted = checks.endless;
        awake = λ n h. ap (λ (m : Machine). m.control.asleep) (stays_on n h) ∙ r.awake;
        all_done = r.all_done;
      }

pub width_cases : WidthCases
width_cases =
    record {
      measured = λ count. (exactly_one.answers copying_image copying_certificate count).measures count 4 (copied count);
      not_checked = λ count. (exactly_one.answers copying_image blank count).refuses_23 checks.unmarked;
      never_slept = λ count. (exactly_one.answers endless_image endless_certificate count).refuses_24 (awake count);
    }
