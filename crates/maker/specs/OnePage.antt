-- "With one page all equals the 4K machine" (document 02, W-210): what the maker answered of an image without pages to
-- choose from, by its definitions as they were. The image itself was program space, in the check and in what an
-- address leads to.
use Rattle.std.specs.Prelude.{ℕ, ◌≤◌, ◌≡◌, ◌≢◌, ◌↔◌, true, List, [], ◌∷◌, length}
use Rattle.isa.specs.Rom.{is_space}
use Rattle.isa.specs.Refusals.{plain, Answer, done, refused}
use Rattle.isa.specs.Decode as decode
use Rattle.isa.specs.Decode.{decode_at}
use Rattle.isa.specs.Displacement.{forward_of}
use Rattle.isa.specs.ControlFlow.{flow_of}
use Rattle.isa.specs.Sources.{is_named, vector_of, reset_vector}
use Rattle.isa.specs.declared.Instruction.{Instruction}
use Rattle.isa.specs.declared.Source.{Source}
use Rattle.certificate.specs.Marks.{Marked, kind_at, need_at}
use Rattle.certificate.specs.Check.{accepted}
use Rattle.certificate.specs.OnePage.{check_unpaged}
use Rattle.certificate.specs.Refusals.{Question, asks, FirstApplies, None, unknown_source}
use Rattle.maker.specs.Reach.{Continues}
use Rattle.maker.specs.Make.{Makes}

-- the instruction at a leads, in code of a kind, to b
pub record LeadsUnpaged (image : List ℕ) (a kind b kind' levels : ℕ) : Type 0 where
  pub instruction : Instruction
  pub bytes : ℕ
  pub cycles : ℕ
  pub decodes : decode_at image a ≡ done (decode.instruction instruction bytes cycles)
  pub goes_on : Continues kind (flow_of instruction a) (forward_of a bytes) b kind' levels

-- "addresses reachable from FFEh or a wired vector"
pub data ReachableUnpaged (image : List ℕ) (wired : ℕ) : (address kind : ℕ) → Type 0 where
  at_reset : ReachableUnpaged image wired reset_vector 1
  at_vector : (s : Source) → is_named wired s ≡ true → ReachableUnpaged image wired (vector_of s) 3
  onward :
      {a kind b kind' levels : ℕ} → ReachableUnpaged image wired a kind → LeadsUnpaged image a kind b kind' levels
      → ReachableUnpaged image wired b kind'

-- "no certificate would be accepted"
abbrev pub NoneUnpaged : (image : List ℕ) → (wired : ℕ) → Type 0
NoneUnpaged image wired =
    (certificate : List ℕ) (levels : ℕ) → check_unpaged image certificate wired ≡ accepted levels → ⊥

-- "the accepted certificate that marks only addresses reachable [..], with the least need at each"
pub record LeastUnpaged (image : List ℕ) (wired : ℕ) (certificate : List ℕ) (levels : ℕ) : Type 0 where
  pub is_accepted : check_unpaged image certificate wired ≡ accepted levels
  pub only_reachable : (a : ℕ) → Marked certificate a → ReachableUnpaged image wired a (kind_at certificate a)
  pub no_smaller :
      (other : List ℕ) (number : ℕ) → check_unpaged image other wired ≡ accepted number
      → (a : ℕ) → need_at certificate a ≤ need_at other a

-- "It refuses with 1, then 11, then 25 when the buffer isn't the image's length, then 26 .."
abbrev pub questions_unpaged : (image : List ℕ) → (wired : ℕ) → (buffer : List ℕ) → List Question
questions_unpaged image wired buffer =
    asks (plain 1) ((length image ≢ 2048) × (length image ≢ 4096))
    ∷ unknown_source wired
    ∷ asks (plain 25) (length buffer ≢ length image)
    ∷ asks (plain 26) (NoneUnpaged image wired)
    ∷ []

abbrev pub MakesUnpaged : (image : List ℕ) → (wired : ℕ) → (before after : List ℕ) → Answer ℕ → Type 0
MakesUnpaged image wired before after (done levels) =
    None (questions_unpaged image wired before) × LeastUnpaged image wired after levels
MakesUnpaged image wired before after (refused r) =
    FirstApplies (questions_unpaged image wired before) r × (after ≡ before)

-- proved by maker_as_before, proofs/OnePage
abbrev pub MakerAsBefore : Type 0
MakerAsBefore =
    (image : List ℕ) → is_space (length image) ≡ true → (wired : ℕ) (before after : List ℕ) (answer : Answer ℕ) →
    Makes image wired before after answer ↔ MakesUnpaged image wired before after answer
