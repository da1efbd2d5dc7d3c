-- `instruction::instruction` meets its contract.
use mathlib.Core.Path.{◌∙◌, ap}
use mir.Syntax.{w8}
use mir.Val.{SFits}
use Rattle.isa.specs.Displacement.{short_target, long_target}
use Rattle.isa.proofs.Finite.{kept}
use Rattle.listing.specs.InstructionText.{instruction_text}
use borrow.Author.Rules.{rules}
use Rattle.listing.proofs.instruction.instruction.Goals as goal

pub returns-in-Jrnz : goal.returns-in-Jrnz
unfolding instruction_text
returns-in-Jrnz c =
    let fits : SFits w8 c.in-Jrnz.e = search rules in
    let at = c.args.at in
    let target = c.short_target.ensures ∙ ap (short_target at) (kept fits) in
    rw c.in-Jrnz.is (rw target at c.jump.ensures)

pub returns-in-Jrnc : goal.returns-in-Jrnc
unfolding instruction_text
returns-in-Jrnc c =
    let fits : SFits w8 c.in-Jrnc.e = search rules in
    let at = c.args.at in
    let target = c.short_target-in-Jrnc.ensures ∙ ap (short_target at) (kept fits) in
    rw c.in-Jrnc.is (rw target at c.jump-in-Jrnc.ensures)

pub returns-in-Jrz : goal.returns-in-Jrz
unfolding instruction_text
returns-in-Jrz c =
    let fits : SFits w8 c.in-Jrz.e = search rules in
    let at = c.args.at in
    let target = c.short_target-in-Jrz.ensures ∙ ap (short_target at) (kept fits) in
    rw c.in-Jrz.is (rw target at c.jump-in-Jrz.ensures)

pub returns-in-Jrc : goal.returns-in-Jrc
unfolding instruction_text
returns-in-Jrc c =
    let fits : SFits w8 c.in-Jrc.e = search rules in
    let at = c.args.at in
    let target = c.short_target-in-Jrc.ensures ∙ ap (short_target at) (kept fits) in
    rw c.in-Jrc.is (rw target at c.jump-in-Jrc.ensures)

pub returns-in-Jrr : goal.returns-in-Jrr
unfolding instruction_text
returns-in-Jrr c =
    let fits : SFits w8 c.in-Jrr.e = search rules in
    let at = c.args.at in
    let target = c.long_target.ensures ∙ ap (long_target at) (kept fits) in
    rw c.in-Jrr.is (rw target at c.bit_jump.ensures)

pub returns-in-Jrs : goal.returns-in-Jrs
unfolding instruction_text
returns-in-Jrs c =
    let fits : SFits w8 c.in-Jrs.e = search rules in
    let at = c.args.at in
    let target = c.long_target-in-Jrs.ensures ∙ ap (long_target at) (kept fits) in
    rw c.in-Jrs.is (rw target at c.bit_jump-in-Jrs.ensures)
