-- `map::column_f` meets its contract.
use mathlib.Core.Path.{◌≡◌, refl, ap, ◌∙◌}
use mathlib.Core.Logic.{inl, inr, ⊎_elim}
use mathlib.Core.List.{[], ◌∷◌}
use Prim.Native.Nat.{ℕ, ◌%◌, ◌<◌}
use types.Run.{OneOf}
use Rattle.isa.specs.declared.Operand.TheVariants.{Direct}
use Rattle.std.specs.Prelude.{Some}
use Rattle.isa.specs.Map.{form_of, form_as, entry_of, on_operand}
use Rattle.isa.proofs.Column.{rows}
use Rattle.isa.proofs.map.column_f.Goals as goal

-- an opcode of the column that is none of the keys
abbrev Rest : ℕ → Type 0
Rest k = Unit × (OneOf (0x0F ∷ 0x2F ∷ 0x4F ∷ 0x6F ∷ 0x8F ∷ 0xAF ∷ 0xCF ∷ 0xEF ∷ []) k → ⊥)

direct : (k : ℕ) → k < 256 → k % 16 ≡ 15 → Rest k → (first second : ℕ)
    → Some (on_operand k (Direct first)) ≡ form_of k first second
unfolding form_of form_as entry_of
direct = rows (λ k. Rest k → (first second : ℕ) → Some (on_operand k (Direct first)) ≡ form_of k first second) 15
    (λ n. absurd (n.1 (inl refl)))
    (λ n first second. refl)
    (λ n. absurd (n.1 (inr (inl refl))))
    (λ n first second. refl)
    (λ n. absurd (n.1 (inr (inr (inl refl)))))
    (λ n first second. refl)
    (λ n. absurd (n.1 (inr (inr (inr (inl refl))))))
    (λ n first second. refl)
    (λ n. absurd (n.1 (inr (inr (inr (inr (inl refl)))))))
    (λ n first second. refl)
    (λ n. absurd (n.1 (inr (inr (inr (inr (inr (inl refl))))))))
    (λ n first second. refl)
    (λ n. absurd (n.1 (inr (inr (inr (inr (inr (inr (inl refl)))))))))
    (λ n first second. refl)
    (λ n. absurd (n.1 (inr (inr (inr (inr (inr (inr (inr refl)))))))))
    (λ n first second. refl)

pub returns-in-15 : goal.returns-in-15
unfolding form_of form_as entry_of
returns-in-15 c second =
    ap Some c.on_operand.ensures ∙ ⊎_elim (λ e. rw e) (⊎_elim (λ e. rw e) (⊎_elim (λ e. rw e) (⊎_elim (λ e. rw e)
    (⊎_elim (λ e. rw e) (⊎_elim (λ e. rw e) (⊎_elim (λ e. rw e) (λ e. rw e))))))) c.in-15.is

pub returns-in_default : goal.returns-in_default
returns-in_default c second =
    ap Some c.on_operand-in_default.ensures ∙
    direct c.args.opcode c.ranges.opcode.fits c.requires
    c.in_default.in_default-own.rest _ second
