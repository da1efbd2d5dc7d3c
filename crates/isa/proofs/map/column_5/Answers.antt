-- `map::column_5` meets its contract.
use mathlib.Core.Path.{◌≡◌, refl}
use mathlib.Core.Logic.{inl, inr}
use mathlib.Core.List.{[], ◌∷◌}
use Prim.Native.Nat.{ℕ, ◌%◌, ◌<◌}
use types.Run.{OneOf}
use Rattle.std.specs.Prelude.{None}
use Rattle.isa.specs.Map.{form_of, form_as, entry_of}
use Rattle.isa.proofs.Column.{rows}
use Rattle.isa.proofs.map.column_5.Goals as goal

-- an opcode of the column that is none of the keys
abbrev Rest : ℕ → Type 0
Rest k = (Unit × (OneOf (0x15 ∷ 0x55 ∷ 0x95 ∷ 0xD5 ∷ []) k → ⊥)) × (OneOf (0x35 ∷ 0x75 ∷ 0xB5 ∷ 0xF5 ∷ []) k → ⊥)

none : (k : ℕ) → k < 256 → k % 16 ≡ 5 → Rest k → (first second : ℕ) → None ≡ form_of k first second
unfolding form_of form_as entry_of
none = rows (λ k. Rest k → (first second : ℕ) → None ≡ form_of k first second) 5
    (λ n first second. refl)
    (λ n. absurd (n.0.1 (inl refl)))
    (λ n first second. refl)
    (λ n. absurd (n.1 (inl refl)))
    (λ n first second. refl)
    (λ n. absurd (n.0.1 (inr (inl refl))))
    (λ n first second. refl)
    (λ n. absurd (n.1 (inr (inl refl))))
    (λ n first second. refl)
    (λ n. absurd (n.0.1 (inr (inr (inl refl)))))
    (λ n first second. refl)
    (λ n. absurd (n.1 (inr (inr (inl refl)))))
    (λ n first second. refl)
    (λ n. absurd (n.0.1 (inr (inr (inr refl)))))
    (λ n first second. refl)
    (λ n. absurd (n.1 (inr (inr (inr refl)))))

pub returns-in_default : goal.returns-in_default
returns-in_default c = none c.args.opcode c.ranges.opcode.fits c.requires c.in_default.in_default-own.rest
