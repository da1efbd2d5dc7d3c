-- Writing an instruction into a buffer (document 01, "Write an instruction").
use Rattle.std.specs.Prelude.{ℕ, ◌≡◌, cond, List, ◌++◌, leb, length, drop, Option, Some, None, Result}
use Rattle.isa.specs.Refusals.{plain, answered, Answer, done, refused}
use Rattle.isa.specs.Encode.{bytes}
use Rattle.isa.specs.declared.Encoded.{Encoded}
use Rattle.isa.specs.declared.Refusal.{Refusal}

-- "9 buffer shorter than the instruction"
abbrev pub fitted : List ℕ → ℕ → Answer ℕ
fitted bs size = cond (leb (length bs) size) (done (length bs)) (refused (plain 9))

-- by the encoding and the buffer's length; 8 comes before 9
unfoldable pub outcome : Option Encoded → ℕ → Answer ℕ
outcome (Some e) size = fitted (bytes (Some e)) size
outcome None size = refused (plain 8)

-- "It is written from the buffer's first byte; bytes after it stay": untouched where they do not fit
abbrev pub put : List ℕ → List ℕ → List ℕ
put bs buffer = cond (leb (length bs) (length buffer)) (bs ++ drop (length bs) buffer) buffer

-- .. and where there are none
unfoldable pub buffer_after : Option Encoded → List ℕ → List ℕ
buffer_after e buffer = put (bytes e) buffer

-- what writing an encoding into a buffer does: its answer, and the buffer after it
pub record Wrote (e : Option Encoded) (before after : List ℕ) (r : Result ℕ Refusal) : Type 0 where
  pub answer : answered r ≡ outcome e (length before)
  pub buffer : after ≡ buffer_after e before
