-- `map::column_7` meets its contract.
use mathlib.Core.Path.{◌≡◌, refl, ap, ◌∙◌}
use mathlib.Core.Logic.{inl, inr}
use mathlib.Core.List.{[], ◌∷◌}
use Prim.Native.Nat.{ℕ, ◌%◌, ◌<◌}
use types.Run.{OneOf}
use Rattle.isa.specs.declared.Operand.TheVariants.{ThroughX}
use Rattle.std.specs.Prelude.{Some}
use Rattle.isa.specs.Map.{form_of, form_as, entry_of, on_operand}
use Rattle.isa.proofs.Column.{rows}
use Rattle.isa.proofs.map.column_7.Goals as goal

-- an opcode of the column that is none of the keys
abbrev Rest : ℕ → Type 0
Rest k =
    (((((Unit × (k ≡ 0x17 → ⊥)) × (k ≡ 0x37 → ⊥)) × (k ≡ 0x57 → ⊥)) × (k ≡ 0xB7 → ⊥)) × (k ≡ 0xD7 → ⊥))
    × (OneOf (0x77 ∷ 0x97 ∷ 0xF7 ∷ []) k → ⊥)

through : (k : ℕ) → k < 256 → k % 16 ≡ 7 → Rest k → (first second : ℕ)
    → Some (on_operand k ThroughX) ≡ form_of k first second
unfolding form_of form_as entry_of
through = rows (λ k. Rest k → (first second : ℕ) → Some (on_operand k ThroughX) ≡ form_of k first second) 7
    (λ n first second. refl)
    (λ n. absurd (n.0.0.0.0.0.1 refl))
    (λ n first second. refl)
    (λ n. absurd (n.0.0.0.0.1 refl))
    (λ n first second. refl)
    (λ n. absurd (n.0.0.0.1 refl))
    (λ n first second. refl)
    (λ n. absurd (n.1 (inl refl)))
    (λ n first second. refl)
    (λ n. absurd (n.1 (inr (inl refl))))
    (λ n first second. refl)
    (λ n. absurd (n.0.0.1 refl))
    (λ n first second. refl)
    (λ n. absurd (n.0.1 refl))
    (λ n first second. refl)
    (λ n. absurd (n.1 (inr (inr refl))))

pub returns-in_default : goal.returns-in_default
returns-in_default c second =
    ap Some c.on_operand.ensures ∙
    through c.args.opcode c.ranges.opcode.fits c.requires
    c.in_default.in_default-own.rest _ second
