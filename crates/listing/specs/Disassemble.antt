-- The text of the instruction at an address, in a buffer.
use Rattle.std.specs.Prelude.{ℕ, ◌≡◌, List, Result}
use Rattle.isa.specs.Refusals.{Answer, answered, done, refused}
use Rattle.isa.specs.Decode as decode
use Rattle.isa.specs.Decode.{Decoding}
use Rattle.isa.specs.declared.Refusal.{Refusal}
use Rattle.listing.specs.InstructionText.{instruction_text}
use Rattle.listing.specs.Write.{Writes}

-- the text of what decoding answers at address a
abbrev pub text_of : (a : ℕ) → Answer Decoding → Answer (List ℕ)
text_of a (done (decode.instruction i bytes cycles)) = done (instruction_text i a)
text_of a (refused r) = refused r

-- writing a text to a buffer, or the refusal in its place, with the buffer untouched
unfoldable pub WritesText : Answer (List ℕ) → (before after : List ℕ) → Result ℕ Refusal → Type 0
WritesText (done text) before after r = Writes text before after r
WritesText (refused n) before after r = (answered r ≡ refused n) × (after ≡ before)
