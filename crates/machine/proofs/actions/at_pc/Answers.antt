use mathlib.Core.Path.{◌∙◌}
use Rattle.isa.proofs.AtAddress.{in_range}
use Rattle.isa.proofs.Halves.{is_space_lem}
use Rattle.data.specs.Space.{program_of}
use Rattle.machine.proofs.actions.at_pc.Goals as goal

pub returns-in-Ok : goal.returns-in-Ok
returns-in-Ok c =
    let a = c.args in
    let program = program_of a.image.now a.bytes.now in
    let decoded =
    c.decode_in_range.ensures c.requires.0 c.requires.1
    ∙ in_range program _ (is_space_lem a.image.now _ c.requires.0) c.requires.1 in
    rw (← decoded, c.in-Ok.is)

pub returns-in-Err : goal.returns-in-Err
returns-in-Err c =
    let a = c.args in
    let program = program_of a.image.now a.bytes.now in
    let decoded =
    c.decode_in_range.ensures c.requires.0 c.requires.1
    ∙ in_range program _ (is_space_lem a.image.now _ c.requires.0) c.requires.1 in
    rw (← decoded, c.in-Err.is)
