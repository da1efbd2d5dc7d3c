-- Lines and texts, byte for byte.
use Rattle.std.specs.Prelude.{pos, ◌≡◌, ℕ, List, [], ◌∷◌, ◌++◌}
use Rattle.isa.specs.declared.Instruction.TheVariants as I
use Rattle.isa.specs.declared.Operand.TheVariants as operand
use Rattle.certificate.specs.Cases.{blank, certificate11, image11, put}
use Rattle.listing.specs.Words.{ascii}
use Rattle.listing.specs.InstructionText.{instruction_text}
use Rattle.listing.specs.AddressLine.{address_line}

-- instructions in the manual's notation
-- proved by text_cases, proofs/Cases
pub record TextCases : Type 0 where
  pub call : instruction_text (I.Call 0x890) 0x881 ≡ ascii "CALL 890h"
  pub bit : instruction_text (I.Jrr 4 0x12 (pos 0x34)) 0x100 ≡ ascii "JRR 4,12h,136h"
  pub set : instruction_text (I.Set 7 0xD0) 0x100 ≡ ascii "SET 7,D0h"
  pub store : instruction_text (I.StoreA (operand.Short 3)) 0x100 ≡ ascii "LD W,A"
  pub through : instruction_text (I.Cp operand.ThroughY) 0x100 ≡ ascii "CP A,(Y)"
  pub immediate : instruction_text (I.LoadImmediate 0x12 0x34) 0x100 ≡ ascii "LDI 12h,34h"

-- two pages, the second with 01 89 at 000h and 09 at 7FFh, and the image of P11 as the fixed half; with its certificate
abbrev pub paged : List ℕ
paged = blank ++ (put 0x800 (0x01 ∷ 0x89 ∷ []) (put 0xFFF (0x09 ∷ []) blank) ++ image11)

abbrev pub marked : List ℕ
marked = put 0x800 (0x21 ∷ []) blank ++ certificate11

-- lines of the image and the certificate of P11, and of an image of two pages
-- proved by line_cases, proofs/Cases
pub record LineCases : Type 0 where
  pub call :
      address_line image11 0 certificate11 0x881
      ≡ ascii "881  01 89     CALL 890h         21  main, needs 1; its target needs 0"
  pub return :
      address_line image11 0 certificate11 0x890
      ≡ ascii "890  CD        RET               40  subroutine, needs 0"
  pub last :
      address_line image11 0 certificate11 0xFFE
      ≡ ascii "FFE  09 88     JP 880h           11  start-up, needs 1"
  -- the second byte of an instruction has no mark
  pub unmarked :
      address_line image11 0 certificate11 0x884
      ≡ ascii "884  88        JRNZ 876h         00  unmarked"
  pub undefined :
      address_line (put 0x880 (0x05 ∷ []) blank) 0 (put 0x880 (0x3F ∷ []) blank) 0x880
      ≡ ascii "880  05        undefined opcode  3F  malformed"
  -- a byte of the ROM whose operand byte lies outside it, and an address outside ROM
  pub cut :
      address_line (put 0xFFF (0x09 ∷ []) blank) 0 (put 0xFFF (0x30 ∷ []) blank) 0xFFF
      ≡ ascii "FFF  09        outside ROM       30  service, needs 0"
  pub outside :
      address_line image11 0 certificate11 0x700
      ≡ ascii "700            outside ROM       00  unmarked"
  -- an image of two pages and the fixed half: the page that the bank byte picks, no page from 800h on, and an
  -- instruction that begins in the page and ends in the fixed half
  pub page :
      address_line paged 3 marked 0x000
      ≡ ascii "1:000  01 89     CALL 890h         21  main, needs 1; its target needs 0"
  pub fixed :
      address_line paged 1 marked 0x890
      ≡ ascii "890  CD        RET               40  subroutine, needs 0"
  pub seam :
      address_line paged 1 marked 0x7FF
      ≡ ascii "1:7FF  09 00     JP 000h           00  unmarked"
