-- The columns of the map that all go on at the next address: for a match on the low digit whose last arm takes them
-- together.
use mathlib.Core.Path.{◌≡◌, refl}
use mathlib.Core.Logic.{inl, inr}
use mathlib.Core.List.{[], ◌∷◌}
use Prim.Native.Nat.{ℕ, ◌%◌, ◌<◌}
use types.Run.{OneOf}
use Rattle.isa.specs.declared.Flow.TheVariants as flow
use Rattle.isa.specs.Map.{form_of, form_as, entry_of}
use Rattle.isa.specs.ControlFlow.{flow_of}
use Rattle.isa.specs.FlowAt.{flow_as}
use Rattle.isa.proofs.Column.{pick16, rows}

-- a digit that is none of the keys
abbrev pub Rest : ℕ → Type 0
Rest d =
    (((((((Unit × (OneOf (0 ∷ 8 ∷ []) d → ⊥)) × (OneOf (2 ∷ 10 ∷ []) d → ⊥)) × (OneOf (4 ∷ 12 ∷ []) d → ⊥))
    × (OneOf (6 ∷ 14 ∷ []) d → ⊥)) × (d ≡ 1 → ⊥)) × (d ≡ 9 → ⊥)) × (d ≡ 3 → ⊥)) × (d ≡ 13 → ⊥)

plain_5 : (k : ℕ) → k < 256 → k % 16 ≡ 5 → (f s a : ℕ) → flow.Next ≡ flow_as (form_of k f s) a
unfolding form_of form_as entry_of flow_of
plain_5 = rows (λ k. (f s a : ℕ) → flow.Next ≡ flow_as (form_of k f s) a) 5
    (λ f s a. refl) (λ f s a. refl) (λ f s a. refl) (λ f s a. refl) (λ f s a. refl) (λ f s a. refl) (λ f s a. refl)
    (λ f s a. refl)
    (λ f s a. refl) (λ f s a. refl) (λ f s a. refl) (λ f s a. refl) (λ f s a. refl) (λ f s a. refl) (λ f s a. refl)
    (λ f s a. refl)

plain_7 : (k : ℕ) → k < 256 → k % 16 ≡ 7 → (f s a : ℕ) → flow.Next ≡ flow_as (form_of k f s) a
unfolding form_of form_as entry_of flow_of
plain_7 = rows (λ k. (f s a : ℕ) → flow.Next ≡ flow_as (form_of k f s) a) 7
    (λ f s a. refl) (λ f s a. refl) (λ f s a. refl) (λ f s a. refl) (λ f s a. refl) (λ f s a. refl) (λ f s a. refl)
    (λ f s a. refl)
    (λ f s a. refl) (λ f s a. refl) (λ f s a. refl) (λ f s a. refl) (λ f s a. refl) (λ f s a. refl) (λ f s a. refl)
    (λ f s a. refl)

plain_11 : (k : ℕ) → k < 256 → k % 16 ≡ 11 → (f s a : ℕ) → flow.Next ≡ flow_as (form_of k f s) a
unfolding form_of form_as entry_of flow_of
plain_11 = rows (λ k. (f s a : ℕ) → flow.Next ≡ flow_as (form_of k f s) a) 11
    (λ f s a. refl) (λ f s a. refl) (λ f s a. refl) (λ f s a. refl) (λ f s a. refl) (λ f s a. refl) (λ f s a. refl)
    (λ f s a. refl)
    (λ f s a. refl) (λ f s a. refl) (λ f s a. refl) (λ f s a. refl) (λ f s a. refl) (λ f s a. refl) (λ f s a. refl)
    (λ f s a. refl)

plain_15 : (k : ℕ) → k < 256 → k % 16 ≡ 15 → (f s a : ℕ) → flow.Next ≡ flow_as (form_of k f s) a
unfolding form_of form_as entry_of flow_of
plain_15 = rows (λ k. (f s a : ℕ) → flow.Next ≡ flow_as (form_of k f s) a) 15
    (λ f s a. refl) (λ f s a. refl) (λ f s a. refl) (λ f s a. refl) (λ f s a. refl) (λ f s a. refl) (λ f s a. refl)
    (λ f s a. refl)
    (λ f s a. refl) (λ f s a. refl) (λ f s a. refl) (λ f s a. refl) (λ f s a. refl) (λ f s a. refl) (λ f s a. refl)
    (λ f s a. refl)

pub by_digit : (d : ℕ) → d < 16 → (k : ℕ) → k < 256 → k % 16 ≡ d → Rest d → (f s a : ℕ)
    → flow.Next ≡ flow_as (form_of k f s) a
by_digit = pick16 (λ d. (k : ℕ) → k < 256 → k % 16 ≡ d → Rest d → (f s a : ℕ) → flow.Next ≡ flow_as (form_of k f s) a)
    (λ k h e n. absurd (n.0.0.0.0.0.0.0.1 (inl refl)))
    (λ k h e n. absurd (n.0.0.0.1 refl))
    (λ k h e n. absurd (n.0.0.0.0.0.0.1 (inl refl)))
    (λ k h e n. absurd (n.0.1 refl))
    (λ k h e n. absurd (n.0.0.0.0.0.1 (inl refl)))
    (λ k h e n. plain_5 k h e)
    (λ k h e n. absurd (n.0.0.0.0.1 (inl refl)))
    (λ k h e n. plain_7 k h e)
    (λ k h e n. absurd (n.0.0.0.0.0.0.0.1 (inr refl)))
    (λ k h e n. absurd (n.0.0.1 refl))
    (λ k h e n. absurd (n.0.0.0.0.0.0.1 (inr refl)))
    (λ k h e n. plain_11 k h e)
    (λ k h e n. absurd (n.0.0.0.0.0.1 (inr refl)))
    (λ k h e n. absurd (n.1 refl))
    (λ k h e n. absurd (n.0.0.0.0.1 (inr refl)))
    (λ k h e n. plain_15 k h e)
