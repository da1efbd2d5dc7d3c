-- The line of an address in a listing: `881  01 89     CALL 890h         21  main, needs 1; its target needs 0`.
use Rattle.std.specs.Prelude.{ℕ, ◌+◌, ◌≤◌, cond, List, [], ◌++◌, eqb, leb, length, Option, Some, None}
use Rattle.isa.specs.Displacement.{forward_of}
use Rattle.isa.specs.Refusals.{Numbered, plain, located, Answer, done, refused}
use Rattle.isa.specs.ControlFlow.{flow_of}
use Rattle.isa.specs.Decode as decode
use Rattle.isa.specs.Decode.{Decoding, decode_in}
use Rattle.isa.specs.RoundTrip.{Bytes}
use Rattle.isa.specs.declared.Flow.{Flow}
use Rattle.isa.specs.declared.Flow.TheVariants as flow
use Rattle.certificate.specs.Marks.{kind_of, mark_at, need_at, need_of}
use Rattle.text_line.specs.Digits.{decimal_of, three_digits, two_digits}
use Rattle.text_line.specs.Line.{pad_to}
use Rattle.listing.specs.Words.{ascii}
use Rattle.listing.specs.InstructionText.{instruction_text}
use Rattle.listing.specs.Kinds.{kind_name}
use Rattle.listing.specs.Pages.{page_text, rom_in}

-- a ROM byte, and nothing outside ROM
unfoldable pub byte_text : Option ℕ → List ℕ
byte_text (Some n) = two_digits n
byte_text None = []

-- the byte of an instruction at an offset from its address, where it has so many
unfoldable pub operand_byte_text : (image : List ℕ) → (bank a offset bytes : ℕ) → List ℕ
operand_byte_text image bank a offset bytes =
    cond (leb bytes offset) [] (ascii " " ++ byte_text (rom_in image bank (forward_of a offset)))

-- the bytes of an instruction
unfoldable pub code_text : (image : List ℕ) → (bank a bytes : ℕ) → List ℕ
code_text image bank a bytes =
    byte_text (rom_in image bank a) ++ (operand_byte_text image bank a 1 bytes ++ operand_byte_text image bank a 2 bytes)

-- how many bytes to show: where nothing decodes, the one that is there
abbrev pub length_of : Answer Decoding → ℕ
length_of (done (decode.instruction i bytes cycles)) = bytes
length_of (refused r) = 1

-- "5 undefined opcode"; every other refusal of decoding is of a byte that is in no ROM
abbrev pub refusal_text : Numbered → List ℕ
refusal_text (plain number) = ascii "outside ROM"
refusal_text (located number address) = cond (eqb number 5) (ascii "undefined opcode") (ascii "outside ROM")

-- the instruction, or why there is none
abbrev pub standing_text : (a : ℕ) → Answer Decoding → List ℕ
standing_text a (done (decode.instruction i bytes cycles)) = instruction_text i a
standing_text a (refused r) = refusal_text r

-- what the target of a CALL needs
abbrev pub target_text : (certificate : List ℕ) → Flow → List ℕ
target_text certificate (flow.Call target) = ascii "; its target needs " ++ decimal_of (need_at certificate target)
target_text certificate flow.Next = []
target_text certificate (flow.Jump target) = []
target_text certificate (flow.Branch condition target) = []
target_text certificate flow.Return = []
target_text certificate flow.ReturnFromInterrupt = []
target_text certificate flow.Sleep = []

abbrev pub call_text : (certificate : List ℕ) → (a : ℕ) → Answer Decoding → List ℕ
call_text certificate a (done (decode.instruction i bytes cycles)) = target_text certificate (flow_of i a)
call_text certificate a (refused r) = []

-- the need of a mark that has a kind, and that of a CALL's target
unfoldable pub need_text : (certificate : List ℕ) → (a : ℕ) → Answer Decoding → (mark : ℕ) → List ℕ
need_text certificate a d mark =
    cond (eqb (kind_of mark) 0) []
    ((ascii ", needs " ++ decimal_of (need_of mark)) ++ call_text certificate a d)

-- the mark as a byte and in words
unfoldable pub mark_text : (certificate : List ℕ) → (a : ℕ) → Answer Decoding → List ℕ
mark_text certificate a d =
    let mark = mark_at certificate a in
    ((two_digits mark ++ ascii "  ") ++ kind_name mark) ++ need_text certificate a d mark

-- with a bank byte: the page, then the address and the bytes of its instruction up to column 15, the instruction up to
-- column 33, the mark
unfoldable pub address_line : (image : List ℕ) → (bank : ℕ) → (certificate : List ℕ) → (a : ℕ) → List ℕ
address_line image bank certificate a =
    let d = decode_in image bank a in
    let page = page_text (length image) bank a in
    let code = ((page ++ three_digits a) ++ ascii "  ") ++ code_text image bank a (length_of d) in
    pad_to (length page + 33) (pad_to (length page + 15) code ++ standing_text a d) ++ mark_text certificate a d

-- an address's line has at most 82 bytes, so that nothing of it is cut off
-- proved by line_fits, proofs/Fits
abbrev pub LineFits : Type 0
LineFits =
    (image : List ℕ) → Bytes image → (bank : ℕ) → (certificate : List ℕ) → (a : ℕ)
    → length (address_line image bank certificate a) ≤ 82
