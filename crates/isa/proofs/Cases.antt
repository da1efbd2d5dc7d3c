-- The ends of long displacements and the places where the manual misleads, by computation.
use Prim.Native.Nat.{ℕ}
use mathlib.Core.Path.{◌≡◌, refl, ◌∙◌}
use mathlib.Core.Bool.{true}
use mathlib.Core.List.{List}
use lib.ListN.{length}
use Rattle.isa.specs.Refusals.{Answer}
use Rattle.isa.specs.Table.{bytes_of, cycles_of}
use Rattle.isa.specs.Map.{entry_of, form_of, form_as}
use Rattle.isa.specs.Rom.{is_space, rom_at, operand_at}
use Rattle.isa.specs.Decode.{Decoding, decode_at, decode_in}
use Rattle.isa.specs.ControlFlow.{flow_of}
use Rattle.isa.specs.Cases.{DecodingCases}
use Rattle.isa.proofs.AtAddress.{in_space}
use Rattle.isa.proofs.Halves.{space_image, space_is_image}

-- without pages to choose from the bank byte does not matter
pub any_bank : (image : List ℕ) (a : ℕ) (d : Answer Decoding) → is_space (length image) ≡ true → decode_at image a ≡ d
    → (bank : ℕ) → decode_in image bank a ≡ d
any_bank image a d is e bank = in_space image bank a (space_image image is) ∙ rw (space_is_image image bank is) e

pub decoding_cases : DecodingCases
unfolding decode_at rom_at operand_at form_of form_as entry_of bytes_of cycles_of flow_of
decoding_cases =
    record {
      long_ends = record {
        farthest = (any_bank _ _ _ refl refl, refl);
        farthest_back = (any_bank _ _ _ refl refl, refl);
      };
      return_opcodes = record {
        of_interrupt = (any_bank _ _ _ refl refl, refl);
        of_subroutine = (any_bank _ _ _ refl refl, refl);
      };
      tested_bit = λ f s. refl;
      no_forms_of_their_own = record {
        nop = (any_bank _ _ _ refl refl, refl);
        clear_a = (any_bank _ _ _ refl refl, refl);
        shift_a = (any_bank _ _ _ refl refl, refl);
        clear = λ d. (any_bank _ _ _ refl refl, refl);
      };
    }
