-- How long texts are: a decoded instruction's has at most 16 bytes, and an address's line at most 82.
use Prim.Native.Nat.{ℕ, ◌+◌, ◌%◌, ◌<◌, ◌≤◌}
use native.Mathlib.Nat.{mod-lt}
use native.Mathlib.Omega.{arith}
use mathlib.Core.Path.{◌≡◌, refl}
use mathlib.Core.Bool.{Bool, true, false, cond}
use mathlib.Core.List.{List, [], ◌++◌}
use lib.Dec.{eqb, leb}
use lib.ListN.{length, length-append, length-replicate}
use borrow.Author.Tests.{leb-true}
use Rattle.isa.specs.Displacement.{forward_of}
use Rattle.isa.specs.Refusals.{plain, located, Answer, done, refused}
use Rattle.isa.specs.Rom.{is_image, spaces_in, space_of}
use Rattle.isa.specs.ControlFlow.{flow_of}
use Rattle.isa.specs.Map.{entry_of, form_as, form_of}
use Rattle.isa.specs.Decode as decode
use Rattle.isa.specs.Decode.{Decoding, decode_at, decode_in}
use Rattle.isa.specs.RoundTrip.{Bytes}
use Rattle.isa.specs.declared.Instruction.{Instruction}
use Rattle.isa.specs.declared.Flow.{Flow}
use Rattle.isa.specs.declared.Flow.TheVariants as flow
use Rattle.std.specs.Prelude.{Option, Some, None}
use Rattle.isa.proofs.Finite.{bounded}
use Rattle.isa.proofs.Halves.{Sized, sized, space_bytes}
use Rattle.isa.proofs.Reading.{reading, rom_byte}
use Rattle.certificate.specs.Marks.{kind_of, mark_at, need_at, need_of}
use Rattle.text_line.specs.Digits.{decimal_of, three_digits, two_digits}
use Rattle.text_line.specs.Line.{pad_to}
use Rattle.text_line.proofs.Decimal.{digits_fit, one_digit}
use Rattle.listing.specs.Words.{ascii}
use Rattle.listing.specs.InstructionText.{instruction_text, operand_text, TextFits}
use Rattle.listing.specs.Kinds.{kind_name}
use Rattle.listing.specs.Pages.{choices_in, page_text, rom_in}
use Rattle.listing.specs.AddressLine.{address_line, byte_text, call_text, code_text, length_of, LineFits, mark_text}
use Rattle.listing.specs.AddressLine.{need_text, operand_byte_text, standing_text, target_text}

abbrev form_text : Option Instruction → ℕ → List ℕ
form_text (Some i) a = instruction_text i a
form_text None a = []

-- whatever the operand bytes are, by the 256 opcodes
form_fits : (k first second a : ℕ) → k < 256 → length (form_text (form_of k first second) a) < 17
unfolding instruction_text operand_text decimal_of form_of form_as entry_of
form_fits k first second a h = bounded (λ j. length (form_text (form_of j first second) a)) 17 tt k h

-- what decodes in an image decodes in program space as it stands
in_space :
    (t : Bool) (d : Answer Decoding) (i : Instruction) (n cycles : ℕ)
    → cond t d (refused (plain 1)) ≡ done (decode.instruction i n cycles) → d ≡ done (decode.instruction i n cycles)
in_space true d i n cycles e = e
in_space false d i n cycles e = absurd (let z : ◌≡◌ {A = ℕ} 0 1 = cc in omega arith)

pub text_fits : TextFits
unfolding decode_in
text_fits image bytes bank a i n cycles e =
    let space = space_of image bank in
    let read = reading space a i n cycles (in_space (is_image (length image)) (decode_at space a) i n cycles e) in
    let opcode = rom_byte space (space_bytes image bank bytes) a read.k read.opcode in
    let fits = form_fits read.k read.f read.s a opcode in
    omega (arith, rw read.form at fits)

-- texts one after the other, and one of two
joined : (s t : List ℕ) (m n : ℕ) → length s ≤ m → length t ≤ n → length (s ++ t) ≤ m + n
joined s t m n p q = rw length-append (omega arith)

chosen : (b : Bool) (s t : List ℕ) (n : ℕ) → length s ≤ n → length t ≤ n → length (cond b s t) ≤ n
chosen true s t n p q = p
chosen false s t n p q = q

pad_fits : (column : ℕ) (s : List ℕ) → length s ≤ column → length (pad_to column s) ≤ column
pad_fits column s h = rw (length-append, length-replicate) (omega arith)

byte_fits : (r : Option ℕ) → length (byte_text r) ≤ 2
unfolding byte_text
byte_fits (Some n) = leb-true 2 2 refl
byte_fits None = leb-true 0 2 refl

operand_fits : (image : List ℕ) (bank a offset bytes : ℕ) → length (operand_byte_text image bank a offset bytes) ≤ 3
unfolding operand_byte_text
operand_fits image bank a offset bytes =
    let byte = byte_text (rom_in image bank (forward_of a offset)) in
    chosen (leb bytes offset) [] (ascii " " ++ byte) 3 (leb-true 0 3 refl)
    (joined (ascii " ") byte 1 2 (leb-true 1 1 refl) (byte_fits (rom_in image bank (forward_of a offset))))

code_fits : (image : List ℕ) (bank a bytes : ℕ) → length (code_text image bank a bytes) ≤ 8
unfolding code_text
code_fits image bank a bytes =
    let first = operand_byte_text image bank a 1 bytes in
    let second = operand_byte_text image bank a 2 bytes in
    joined (byte_text (rom_in image bank a)) (first ++ second) 2 6 (byte_fits (rom_in image bank a))
    (joined first second 3 3 (operand_fits image bank a 1 bytes) (operand_fits image bank a 2 bytes))

standing_fits :
    (image : List ℕ) → Bytes image → (bank a : ℕ) → length (standing_text a (decode_in image bank a)) ≤ 16
standing_fits image bytes bank a = go (decode_in image bank a) refl
  where
    go : (d : Answer Decoding) → decode_in image bank a ≡ d → length (standing_text a d) ≤ 16
    go (done (decode.instruction i n cycles)) e = text_fits image bytes bank a i n cycles e
    go (refused (plain n)) e = leb-true 11 16 refl
    go (refused (located n at)) e =
        chosen (eqb n 5) (ascii "undefined opcode") (ascii "outside ROM") 16 (leb-true 16 16 refl) (leb-true 11 16 refl)

decimal_fits : (n : ℕ) → n < 256 → length (decimal_of n) ≤ 3
decimal_fits n h = digits_fit 2 n (omega arith)

target_fits : (certificate : List ℕ) (f : Flow) → length (target_text certificate f) ≤ 22
unfolding need_at
target_fits certificate flow.Next = leb-true 0 22 refl
target_fits certificate (flow.Jump target) = leb-true 0 22 refl
target_fits certificate (flow.Branch condition target) = leb-true 0 22 refl
target_fits certificate (flow.Call target) =
    joined (ascii "; its target needs ") (decimal_of (mark_at certificate target % 16)) 19 3 (leb-true 19 19 refl)
    (decimal_fits (mark_at certificate target % 16) (omega arith))
target_fits certificate flow.Return = leb-true 0 22 refl
target_fits certificate flow.ReturnFromInterrupt = leb-true 0 22 refl
target_fits certificate flow.Sleep = leb-true 0 22 refl

call_fits_lem : (certificate : List ℕ) (a : ℕ) (d : Answer Decoding) → length (call_text certificate a d) ≤ 22
call_fits_lem certificate a (done (decode.instruction i n cycles)) = target_fits certificate (flow_of i a)
call_fits_lem certificate a (refused r) = leb-true 0 22 refl

need_fits :
    (certificate : List ℕ) (a : ℕ) (d : Answer Decoding) (mark : ℕ) → length (need_text certificate a d mark) ≤ 33
unfolding need_text
need_fits certificate a d mark =
    let needs = ascii ", needs " ++ decimal_of (need_of mark) in
    chosen (eqb (kind_of mark) 0) [] (needs ++ call_text certificate a d) 33 (leb-true 0 33 refl)
    (joined needs (call_text certificate a d) 11 22
    (joined (ascii ", needs ") (decimal_of (need_of mark)) 8 3 (leb-true 8 8 refl)
    (decimal_fits (need_of mark) (omega arith)))
    (call_fits_lem certificate a d))

kind_fits : (mark : ℕ) → length (kind_name mark) ≤ 10
unfolding kind_name
kind_fits mark =
    let kind = kind_of mark in
    chosen (eqb mark 0x00) (ascii "unmarked") _ 10 (leb-true 8 10 refl)
    (chosen (eqb kind 1) (ascii "start-up") _ 10 (leb-true 8 10 refl)
    (chosen (eqb kind 2) (ascii "main") _ 10 (leb-true 4 10 refl)
    (chosen (eqb kind 3) (ascii "service") _ 10 (leb-true 7 10 refl)
    (chosen (eqb kind 4) (ascii "subroutine") (ascii "malformed") 10 (leb-true 10 10 refl) (leb-true 9 10 refl)))))

mark_fits : (certificate : List ℕ) (a : ℕ) (d : Answer Decoding) → length (mark_text certificate a d) ≤ 47
unfolding mark_text
mark_fits certificate a d =
    let mark = mark_at certificate a in
    let byte = two_digits mark ++ ascii "  " in
    joined (byte ++ kind_name mark) (need_text certificate a d mark) 14 33
    (joined byte (kind_name mark) 4 10 (leb-true 4 4 refl) (kind_fits mark))
    (need_fits certificate a d mark)

-- there are at most nine pages, so that a page's number has one digit
few_choices : (n : ℕ) → (0 < choices_in n) × (choices_in n < 10)
unfolding choices_in
few_choices n = by_test (is_image n) refl
  where
    by_test : (t : Bool) → is_image n ≡ t → (0 < cond t (spaces_in n) 1) × (cond t (spaces_in n) 1 < 10)
    by_test true is = let size : Sized n = sized n is in (omega arith, omega (arith, size.most))
    by_test false is = (omega arith, omega arith)

page_digit : (n bank : ℕ) → bank % choices_in n < 10
page_digit n bank =
    let few = few_choices n in
    let below : bank % choices_in n < choices_in n = mod-lt bank few.0 in
    omega (arith, few.1)

pub page_fits : (n bank a : ℕ) → length (page_text n bank a) ≤ 2
unfolding page_text
page_fits n bank a =
    let digits = decimal_of (bank % choices_in n) in
    let one : length digits ≤ 1 = rw (one_digit (bank % choices_in n) (page_digit n bank)) (leb-true 1 1 refl) in
    chosen (leb (choices_in n) 1) [] _ 2 (leb-true 0 2 refl)
    (chosen (leb 2048 a) [] (digits ++ ascii ":") 2 (leb-true 0 2 refl) (joined digits (ascii ":") 1 1 one (leb-true 1 1 refl)))

pub line_fits : LineFits
unfolding address_line
line_fits image bytes bank certificate a =
    let d = decode_in image bank a in
    let page = page_text (length image) bank a in
    let begun = (page ++ three_digits a) ++ ascii "  " in
    let code = begun ++ code_text image bank a (length_of d) in
    let text = pad_to (length page + 15) code ++ standing_text a d in
    let marked = pad_to (length page + 33) text in
    let few : length page ≤ 2 = page_fits (length image) bank a in
    let addressed : length begun ≡ length page + 5 = simp length-append (omega arith) in
    let coded : length code ≤ length page + 5 + 8 =
    joined begun (code_text image bank a (length_of d)) (length page + 5) 8 (omega arith) (code_fits image bank a (length_of d)) in
    let told : length text ≤ length page + 15 + 16 =
    joined (pad_to (length page + 15) code) (standing_text a d) (length page + 15) 16
    (pad_fits (length page + 15) code (omega arith)) (standing_fits image bytes bank a) in
    let whole : length (marked ++ mark_text certificate a d) ≤ length page + 33 + 47 =
    joined marked (mark_text certificate a d) (length page + 33) 47
    (pad_fits (length page + 33) text (omega arith)) (mark_fits certificate a d) in
    omega arith
