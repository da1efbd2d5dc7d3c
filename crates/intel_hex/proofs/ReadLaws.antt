-- Laws of reading line by line: a turn of the loop, and the end of the text.
use Prim.Native.Nat.{ℕ, suc, ◌+◌, ◌<◌}
use native.Mathlib.Omega.{arith}
use native.Mathlib.Numerals.{add-one}
use mathlib.Core.Path.{◌≡◌, refl, sym, ap, ◌∙◌}
use mathlib.Core.Bool.{Bool, true, false}
use mathlib.Core.List.{List, [], ◌∷◌}
use lib.ListN.{length, take, drop}
use Rattle.std.specs.Prelude.{Result, Ok, Err}
use Rattle.isa.specs.Rom.{is_space}
use Rattle.intel_hex.specs.declared.Fault.{Fault}
use Rattle.intel_hex.specs.declared.Fault.TheVariants.{NoEnd}
use Rattle.intel_hex.specs.declared.LineFault.{LineFault}
use Rattle.intel_hex.specs.declared.HexError.TheVariants.{Line, ImageLength}
use Rattle.intel_hex.specs.Place.{Memory, goes, faulty, none_named}
use Rattle.intel_hex.specs.Take.{after_line, step_of}
use Rattle.intel_hex.specs.Lines.{lines_of, line_size, content_of, without_last}
use Rattle.intel_hex.specs.Image.{filled, lowest_in}
use Rattle.intel_hex.specs.Read.{Reads, whole, refused_at, then_next, after_lines, first_of, outcome_of, lines_read_of}
use Rattle.intel_hex.proofs.LineLaws.{first_line}

-- the first line and the lines after it
one_line :
    (first : ℕ) (ended : Bool) (number : ℕ) (memory : Memory) (line : List ℕ) (lines : List (List ℕ))
    → after_lines first ended number memory (line ∷ lines)
    ≡ then_next number (after_line first ended memory (content_of line))
    (λ on after. after_lines first on (suc number) after lines)
unfolding after_lines
one_line first ended number memory line lines = refl

pub line_read :
    (first : ℕ) (ended : Bool) (number : ℕ) (memory : Memory) (line : List ℕ) (lines : List (List ℕ)) (on : Bool) (after : Memory)
    → after_line first ended memory (content_of line) ≡ goes on after
    → after_lines first ended number memory (line ∷ lines) ≡ after_lines first on (suc number) after lines
line_read first ended number memory line lines on after e =
    rw (one_line first ended number memory line lines, e)

-- what the program makes of a line without its ending
module _
    (first : ℕ) (ended : Bool) (memory : Memory) (raw cut line : List ℕ) (one : cut ≡ without_last 10 raw)
    (two : line ≡ without_last 13 cut) (taken : Result Bool Fault) (after : Memory)
    (step : step_of taken after ≡ after_line first ended memory line) where
  steps : step_of taken after ≡ after_line first ended memory (content_of raw)
  steps = step ∙ ap (λ (l : List ℕ). after_line first ended memory l) (two ∙ ap (without_last 13) one)

  pub line_faulty :
      (fault : Fault) → taken ≡ Err fault → faulty fault ≡ after_line first ended memory (content_of raw)
  line_faulty fault e = ap (λ (t : Result Bool Fault). step_of t after) (sym e) ∙ steps

  pub line_on : (on : Bool) → taken ≡ Ok on → goes on after ≡ after_line first ended memory (content_of raw)
  line_on on e = ap (λ (t : Result Bool Fault). step_of t after) (sym e) ∙ steps

module _
    (first : ℕ) (ended : Bool) (number : ℕ) (memory : Memory) (rest : List ℕ) (size : ℕ) (more : 0 < length rest)
    (is : size ≡ line_size rest) where
  split : lines_of rest ≡ take size rest ∷ lines_of (drop size rest)
  split = rw is (first_line rest more)

  pub turn_refused :
      (fault : Fault) → faulty fault ≡ after_line first ended memory (content_of (take size rest))
      → refused_at number fault ≡ after_lines first ended number memory (lines_of rest)
  turn_refused fault e =
      rw (split, one_line first ended number memory (take size rest) (lines_of (drop size rest)), ← e)

  pub turn_on :
      (on : Bool) (after : Memory) → goes on after ≡ after_line first ended memory (content_of (take size rest))
      → after_lines first on (number + 1) after (lines_of (drop size rest))
      ≡ after_lines first ended number memory (lines_of rest)
  turn_on on after e =
      rw (
        split,
        one_line first ended number memory (take size rest) (lines_of (drop size rest)),
        ← e,
        add-one number,
      )

-- the end of the text
pub text_ends :
    (first number : ℕ) (memory : Memory) (rest : List ℕ) → length rest ≡ 0
    → whole memory ≡ after_lines first true number memory (lines_of rest)
unfolding after_lines lines_of
text_ends first number memory [] h = refl
text_ends first number memory (c ∷ rest) h = absurd (omega arith)

pub text_breaks :
    (first number : ℕ) (memory : Memory) (rest : List ℕ) → length rest ≡ 0
    → refused_at number NoEnd ≡ after_lines first false number memory (lines_of rest)
unfolding after_lines lines_of
text_breaks first number memory [] h = refl
text_breaks first number memory (c ∷ rest) h = absurd (omega arith)

-- the answers of a reading
module _ (text : List ℕ) (fill : ℕ) (lent : List ℕ) where
  pub reads_nothing : is_space (length lent) ≡ false → Reads text fill lent lent (Err ImageLength)
  unfolding outcome_of
  reads_nothing e = record { answer = rw e; image = rw e }

  module _
      (is : is_space (length lent) ≡ true) (answer : Result (Unit {0}) LineFault) (memory : Memory)
      (read : lines_read_of answer memory ≡ after_lines (first_of (length lent)) false 1 none_named (lines_of text)) where
    outcome : outcome_of text (length lent) ≡ lines_read_of answer memory
    unfolding outcome_of
    outcome = rw is (sym read)

    pub reads_refused : (at : LineFault) → answer ≡ Err at → Reads text fill lent lent (Err (Line at))
    reads_refused at e =
        let all : outcome_of text (length lent) ≡ refused_at at.line at.fault =
        outcome ∙ ap (λ (r : Result (Unit {0}) LineFault). lines_read_of r memory) e in
        record { answer = rw all; image = rw all }

    pub reads_whole :
        (done : Unit {0}) → answer ≡ Ok done → (after : List ℕ) (lowest : ℕ)
        → after ≡ filled fill memory (first_of (length lent)) (length lent) → lowest ≡ lowest_in memory
        → Reads text fill lent after (Ok lowest)
    reads_whole done e after lowest f l =
        let all : outcome_of text (length lent) ≡ whole memory =
        outcome ∙ ap (λ (r : Result (Unit {0}) LineFault). lines_read_of r memory) e in
        record { answer = rw (all, l); image = rw all f }
