-- The short displacement as a formula, with no comparison and no branch (document 02, W-205).
use Rattle.std.specs.Prelude.{ℕ, ◌+◌, ◌/◌, ◌%◌, ◌<◌, ◌≡◌, ℤ, pos, negsuc, ◌-ℤ◌, ◌≤ℤ◌}
use Rattle.isa.specs.Displacement.{short_displacement}

-- "the opcode's top five bits plus 16, the remainder by 32, less 16"
abbrev pub short_formula : ℕ → ℤ
short_formula opcode = pos ((opcode / 8 + 16) % 32) -ℤ pos 16

-- of every opcode
-- proved by short_displacement_formula, proofs/ShortDisplacement
pub record ShortDisplacementFormula : Type 0 where
  -- "proved once over all 256 opcodes that this equals document 01's signed value"
  pub equal : (opcode : ℕ) → opcode < 256 → short_formula opcode ≡ short_displacement opcode
  -- document 01: "signed, −16 to 15"; `negsuc 15` is -16
  pub at_least : (opcode : ℕ) → opcode < 256 → negsuc 15 ≤ℤ short_displacement opcode
  pub at_most : (opcode : ℕ) → opcode < 256 → short_displacement opcode ≤ℤ pos 15
