-- Document 01's bench cases of the check, computed.
use mathlib.Core.Path.{refl}
use Rattle.isa.specs.Map
use Rattle.isa.specs.Table
use Rattle.isa.specs.Rom
use Rattle.isa.specs.Decode
use Rattle.isa.specs.ControlFlow
use Rattle.certificate.specs.Marks
use Rattle.certificate.specs.Successors
use Rattle.certificate.specs.Levels
use Rattle.certificate.specs.Vectors.{vectors_found, source_found, vector_found}
use Rattle.certificate.specs.Check.{check_of, marks_found, mark_found, pages_found, decoded_found, flow_found}
use Rattle.certificate.specs.Cases.{CheckCases}

pub check_cases : CheckCases
unfolding check_of marks_found mark_found pages_found decoded_found flow_found vectors_found source_found vector_found Marks.mark_at
    Marks.kind_at Marks.need_at Successors.placed Successors.successors_of Successors.all_have_kind Successors.covers_all
    Successors.successors_found Levels.source_levels Levels.levels_for Levels.levels_of Map.entry_of Table.bytes_of
    Table.cycles_of Map.form_as Map.form_of Rom.rom_at Rom.operand_at Rom.space_of Rom.page_of Rom.fixed_of Decode.decode_at ControlFlow.flow_of
check_cases =
    record {
      p11 = refl;
      p12 = refl;
      need_six = refl;
      need_four = refl;
      need_five = refl;
      bytes_2047 = refl;
      bytes_2049 = refl;
      cut = refl;
    }
