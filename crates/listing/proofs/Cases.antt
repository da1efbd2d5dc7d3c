-- Lines and texts, computed.
use mathlib.Core.Path.{refl}
use Rattle.isa.specs.Decode.{decode_at, decode_in}
use Rattle.isa.specs.Rom.{fixed_of, operand_at, page_of, rom_at, space_of}
use Rattle.isa.specs.Map.{entry_of, form_as, form_of}
use Rattle.isa.specs.Table.{bytes_of, cycles_of}
use Rattle.isa.specs.ControlFlow.{flow_of}
use Rattle.certificate.specs.Marks.{mark_at, need_at}
use Rattle.text_line.specs.Digits.{decimal_of}
use Rattle.listing.specs.InstructionText.{instruction_text, operand_text}
use Rattle.listing.specs.Kinds.{kind_name}
use Rattle.listing.specs.Pages.{choices_in, page_text, rom_in}
use Rattle.listing.specs.AddressLine.{address_line, byte_text, code_text, mark_text, need_text, operand_byte_text}
use Rattle.listing.specs.Cases.{TextCases, LineCases}

pub text_cases : TextCases
unfolding instruction_text operand_text decimal_of
text_cases = record { call = refl; bit = refl; set = refl; store = refl; through = refl; immediate = refl }

pub line_cases : LineCases
unfolding address_line code_text byte_text operand_byte_text mark_text need_text kind_name instruction_text operand_text
    decimal_of decode_at decode_in rom_at rom_in operand_at form_of form_as entry_of bytes_of cycles_of flow_of mark_at need_at
    space_of page_of fixed_of choices_in page_text
line_cases =
    record {
      call = refl;
      return = refl;
      last = refl;
      unmarked = refl;
      undefined = refl;
      cut = refl;
      outside = refl;
      page = refl;
      fixed = refl;
      seam = refl;
    }
