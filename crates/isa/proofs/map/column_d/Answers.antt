-- `map::column_d` meets its contract.
use mathlib.Core.Path.{◌≡◌, refl}
use mathlib.Core.Logic.{inl, inr}
use mathlib.Core.List.{[], ◌∷◌}
use Prim.Native.Nat.{ℕ, ◌%◌, ◌<◌}
use types.Run.{OneOf}
use Rattle.std.specs.Prelude.{None}
use Rattle.isa.specs.Map.{form_of, form_as, entry_of}
use Rattle.isa.proofs.Column.{rows}
use Rattle.isa.proofs.map.column_d.Goals as goal

-- an opcode of the column that is none of the keys
abbrev Rest : ℕ → Type 0
Rest k =
    ((((((((Unit × (OneOf (0x1D ∷ 0x5D ∷ 0x9D ∷ 0xDD ∷ []) k → ⊥)) × (OneOf (0x3D ∷ 0x7D ∷ 0xBD ∷ 0xFD ∷ []) k → ⊥))
    × (k ≡ 0x0D → ⊥)) × (k ≡ 0x2D → ⊥)) × (k ≡ 0x4D → ⊥)) × (k ≡ 0x6D → ⊥))
    × (k ≡ 0xAD → ⊥)) × (k ≡ 0xCD → ⊥)) × (k ≡ 0xED → ⊥)

none : (k : ℕ) → k < 256 → k % 16 ≡ 13 → Rest k → (first second : ℕ) → None ≡ form_of k first second
unfolding form_of form_as entry_of
none = rows (λ k. Rest k → (first second : ℕ) → None ≡ form_of k first second) 13
    (λ n. absurd (n.0.0.0.0.0.0.1 refl))
    (λ n. absurd (n.0.0.0.0.0.0.0.0.1 (inl refl)))
    (λ n. absurd (n.0.0.0.0.0.1 refl))
    (λ n. absurd (n.0.0.0.0.0.0.0.1 (inl refl)))
    (λ n. absurd (n.0.0.0.0.1 refl))
    (λ n. absurd (n.0.0.0.0.0.0.0.0.1 (inr (inl refl))))
    (λ n. absurd (n.0.0.0.1 refl))
    (λ n. absurd (n.0.0.0.0.0.0.0.1 (inr (inl refl))))
    (λ n first second. refl)
    (λ n. absurd (n.0.0.0.0.0.0.0.0.1 (inr (inr (inl refl)))))
    (λ n. absurd (n.0.0.1 refl))
    (λ n. absurd (n.0.0.0.0.0.0.0.1 (inr (inr (inl refl)))))
    (λ n. absurd (n.0.1 refl))
    (λ n. absurd (n.0.0.0.0.0.0.0.0.1 (inr (inr (inr refl)))))
    (λ n. absurd (n.1 refl))
    (λ n. absurd (n.0.0.0.0.0.0.0.1 (inr (inr (inr refl)))))

pub returns-in_default : goal.returns-in_default
returns-in_default c = none c.args.opcode c.ranges.opcode.fits c.requires c.in_default.in_default-own.rest _ _
