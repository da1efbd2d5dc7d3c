-- What writing answers and does to the buffer (document 01, "What each operation turns down").
use Rattle.std.specs.Prelude.{ℕ, ◌<◌, ◌≤◌, ◌≡◌, List, length, take, drop, Option, None}
use Rattle.isa.specs.Refusals.{Numbered, plain, done, refused}
use Rattle.isa.specs.Write.{outcome, buffer_after}
use Rattle.isa.specs.Encode.{bytes}
use Rattle.isa.specs.declared.Encoded.{Encoded}

-- "Write an instruction: 8 .. ; 9 buffer shorter than the instruction. It is written from the buffer's first byte;
-- bytes after it stay." "A refusal is a number, and leaves buffers and machine untouched." When it is 8 says
-- `RefusedExactly`
-- proved by write_effects, proofs/WriteEffects
pub record WriteEffects : Type 0 where
  pub beyond : (size : ℕ) → outcome None size ≡ refused (plain 8)
  pub too_short : (e : Option Encoded) (size : ℕ) → size < length (bytes e) → outcome e size ≡ refused (plain 9)
  pub fits :
      (e : Option Encoded) (size : ℕ) → (e ≡ None → ⊥) → length (bytes e) ≤ size →
      outcome e size ≡ done (length (bytes e))
  pub untouched :
      (e : Option Encoded) (buffer : List ℕ) (r : Numbered) → outcome e (length buffer) ≡ refused r →
      buffer_after e buffer ≡ buffer
  pub from_first :
      (e : Option Encoded) (buffer : List ℕ) (n : ℕ) → outcome e (length buffer) ≡ done n →
      take n (buffer_after e buffer) ≡ bytes e
  pub others_stay :
      (e : Option Encoded) (buffer : List ℕ) (n : ℕ) → outcome e (length buffer) ≡ done n →
      drop n (buffer_after e buffer) ≡ drop n buffer
