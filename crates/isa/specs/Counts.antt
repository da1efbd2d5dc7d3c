-- The opcode map's counts, and the opcodes that it leaves undefined (document 01, "The opcode map").
use Rattle.std.specs.Prelude.{ℕ, zero, suc, ◌+◌, ◌<◌, ◌≡◌, Bool, true, false, cond, not, ◌||◌, List, [], ◌∷◌, eqb, Option, Some, None}
use Rattle.isa.specs.Table.{bytes_of, cycles_of}
use Rattle.isa.specs.Map.{entry_of, form_of}
use Rattle.isa.specs.declared.Instruction.{Instruction}

-- how many numbers below n pass the test
abbrev pub count : (ℕ → Bool) → ℕ → ℕ
count f zero = 0
count f (suc n) = cond (f zero) 1 0 + count (λ k. f (suc k)) n

abbrev pub is_undefined : Option Instruction → Bool
is_undefined (Some i) = false
is_undefined None = true

-- how many opcodes are defined, take n bytes, last n cycles
abbrev pub defined : ℕ
defined = count (λ k. not (is_undefined (form_of k 0 0))) 256

abbrev pub of_length : ℕ → ℕ
of_length n = count (λ k. eqb (bytes_of (entry_of k)) n) 256

abbrev pub of_cycles : ℕ → ℕ
of_cycles n = count (λ k. eqb (cycles_of (entry_of k)) n) 256

-- "Of the other 244, 166 take one byte, 61 two, 17 three; 132 last two cycles, 96 four, 16 five."
-- proved by counts, proofs/Counts
pub record Counts : Type 0 where
  pub of_all : defined ≡ 244
  pub of_one_byte : of_length 1 ≡ 166
  pub of_two_bytes : of_length 2 ≡ 61
  pub of_three_bytes : of_length 3 ≡ 17
  pub of_two_cycles : of_cycles 2 ≡ 132
  pub of_four_cycles : of_cycles 4 ≡ 96
  pub of_five_cycles : of_cycles 5 ≡ 16

-- "Twelve opcodes are undefined: 05h, 25h, 45h, 65h, 85h, A5h, C5h, E5h, 77h, 97h, F7h, 8Dh."
abbrev pub undefined_opcodes : List ℕ
undefined_opcodes = 0x05 ∷ 0x25 ∷ 0x45 ∷ 0x65 ∷ 0x85 ∷ 0xA5 ∷ 0xC5 ∷ 0xE5 ∷ 0x77 ∷ 0x97 ∷ 0xF7 ∷ 0x8D ∷ []

abbrev pub member : ℕ → List ℕ → Bool
member k [] = false
member k (x ∷ xs) = eqb k x || member k xs

-- these and no others, whatever bytes follow; and "the twelve undefined ones hold 0 and 0"
-- proved by undefined_listed, proofs/Counts
pub record UndefinedListed : Type 0 where
  pub exactly : (k first second : ℕ) → k < 256 → is_undefined (form_of k first second) ≡ member k undefined_opcodes
  pub no_length : (k : ℕ) → k < 256 → member k undefined_opcodes ≡ true → bytes_of (entry_of k) ≡ 0
  pub no_cycles : (k : ℕ) → k < 256 → member k undefined_opcodes ≡ true → cycles_of (entry_of k) ≡ 0
