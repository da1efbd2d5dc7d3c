-- `decode::decode_in_range` meets its contract: the bytes as they are read, then the form.
use Rattle.std.proofs.Common.{◌≡◌, ℕ, sym, ◌∙◌}
use Rattle.std.specs.Prelude.{Option, Some}
use Rattle.isa.specs.Refusals.{Answer}
use Rattle.isa.specs.Map.{form_of}
use Rattle.isa.specs.Decode.{Decoding, with_form, code_as}
use Rattle.isa.specs.declared.Instruction.{Instruction}
use Rattle.isa.proofs.FromParts.{decoded}
use Rattle.isa.proofs.decode.decode_in_range.Goals as goal

-- the form by its case
by_form : (a o f s : ℕ) (x : Option Instruction) (d : Answer Decoding) → code_as a (Some (o, f, s)) ≡ d → form_of o f s ≡ x
    → with_form a o x ≡ d
by_form a o f s x d p q = rw q at p

pub returns-in_default : goal.returns-in_default
returns-in_default c is low =
    decoded c.args.image.now c.args.bank c.args.address _ _ _ _ c.space_in.ensures.page c.space_in.ensures.fixed is
    (λ h. c.code_at.ensures h low) c.in_default.is

pub returns-in_default-form : goal.returns-in_default-form
returns-in_default-form c is low =
    by_form _ _ _ _ _ _
    (decoded c.args.image.now c.args.bank c.args.address _ _ _ _ c.space_in.ensures.page c.space_in.ensures.fixed is
    (λ h. c.code_at.ensures h low) c.in-Some.is)
    (sym c.form.ensures ∙ c.in_default-form.is)

pub returns : goal.returns
returns c is low =
    rw (c.timing_by_map-timing.ensures.0, c.timing_by_map-timing.ensures.1)
    (by_form _ _ _ _ _ _
    (decoded c.args.image.now c.args.bank c.args.address _ _ _ _ c.space_in.ensures.page c.space_in.ensures.fixed is
    (λ h. c.code_at.ensures h low) c.in-Some.is)
    (sym c.form.ensures ∙ c.in-Some-form.is))
