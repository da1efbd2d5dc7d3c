-- A text read into an image.
use Rattle.std.specs.Prelude.{ℕ, suc, ◌-◌, ◌≡◌, Bool, false, List, [], ◌∷◌, length, Result, Ok, Err}
use Rattle.isa.specs.Refusals.{unless}
use Rattle.isa.specs.Rom.{is_space}
use Rattle.intel_hex.specs.declared.Fault.{Fault}
use Rattle.intel_hex.specs.declared.Fault.TheVariants.{NoEnd}
use Rattle.intel_hex.specs.declared.LineFault.{LineFault}
use Rattle.intel_hex.specs.declared.HexError.{HexError}
use Rattle.intel_hex.specs.declared.HexError.TheVariants.{Line, ImageLength}
use Rattle.intel_hex.specs.Place.{Memory, Step, goes, faulty, none_named}
use Rattle.intel_hex.specs.Take.{after_line}
use Rattle.intel_hex.specs.Lines.{lines_of, content_of}
use Rattle.intel_hex.specs.Image.{filled, lowest_in}

-- what a text leads to: a memory, or a line at fault, or nothing where there is no image of that length
pub data Outcome : Type 0 where
  whole : (memory : Memory) → Outcome
  refused_at : (line : ℕ) → Fault → Outcome
  no_image : Outcome

-- the line of that number led there; the lines after it come next
abbrev pub then_next : (number : ℕ) → Step → (next : Bool → Memory → Outcome) → Outcome
then_next number (goes ended memory) next = next ended memory
then_next number (faulty fault) next = refused_at number fault

-- the lines from the one of that number on. A text that stops without an end record is refused with the number that
-- the next line would have
unfoldable pub after_lines :
    (first : ℕ) → (ended : Bool) → (number : ℕ) → (memory : Memory) → (lines : List (List ℕ)) → Outcome
after_lines first ended number memory [] = unless ended (refused_at number NoEnd) (whole memory)
after_lines first ended number memory (line ∷ lines) =
    then_next number (after_line first ended memory (content_of line))
    (λ on after. after_lines first on (suc number) after lines)

-- an image's first address: its last byte is that of FFFh
abbrev pub first_of : (size : ℕ) → ℕ
first_of size = 4096 - size

-- a text read for an image of so many bytes
unfoldable pub outcome_of : (text : List ℕ) → (size : ℕ) → Outcome
outcome_of text size =
    unless (is_space size) no_image (after_lines (first_of size) false 1 none_named (lines_of text))

-- the answer to it
abbrev pub answer_of : Outcome → Result ℕ HexError
answer_of (whole memory) = Ok (lowest_in memory)
answer_of (refused_at line fault) = Err (Line (record { line = line; fault = fault }))
answer_of no_image = Err ImageLength

-- the image after it: a text that is refused leaves it as it was
abbrev pub image_after : (fill : ℕ) → (image : List ℕ) → Outcome → List ℕ
image_after fill image (whole memory) = filled fill memory (first_of (length image)) (length image)
image_after fill image (refused_at line fault) = image
image_after fill image no_image = image

-- reading a text into an image
pub record Reads (text : List ℕ) (fill : ℕ) (lent after : List ℕ) (r : Result ℕ HexError) : Type 0 where
  pub answer : r ≡ answer_of (outcome_of text (length lent))
  pub image : after ≡ image_after fill lent (outcome_of text (length lent))

-- the program's answer to all lines, with the memory that they leave
abbrev pub lines_read_of : Result (Unit {0}) LineFault → (memory : Memory) → Outcome
lines_read_of (Ok done) memory = whole memory
lines_read_of (Err at) memory = refused_at at.line at.fault
