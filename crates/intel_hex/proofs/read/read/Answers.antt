-- `read::read` meets its contract: the image is written only after every line.
use Rattle.std.proofs.Common.{sym, ◌∙◌}
use Rattle.std.proofs.lemmas.Result.{err_from_is_err_and}
use Rattle.intel_hex.specs.Place.{none_named}
use Rattle.intel_hex.proofs.ReadLaws.{reads_nothing, reads_refused, reads_whole}
use Rattle.intel_hex.proofs.read.read.Goals as goal

pub returns-then-not-is_space_length : goal.returns-then-not-is_space_length
returns-then-not-is_space_length c =
    reads_nothing c.args.text.now c.args.fill c.args.image.now
    (sym c.is_space_length.ensures ∙ c.if-not-is_space_length.true)

pub returns-in_err-read_lines : goal.returns-in_err-read_lines
unfolding none_named
returns-in_err-read_lines c =
    let p = err_from_is_err_and c.from_residual.result c.from_residual.ensures.1 in
    rw (p.1, p.2)
    (reads_refused c.args.text.now c.args.fill c.args.image.now
    (sym c.is_space_length.ensures ∙ c.if-not-is_space_length.false) c.read_lines.result _ c.read_lines.ensures
    _ c.in_err-read_lines.was)

pub returns : goal.returns
unfolding none_named
returns c =
    reads_whole c.args.text.now c.args.fill c.args.image.now
    (sym c.is_space_length.ensures ∙ c.if-not-is_space_length.false) c.read_lines.result _ c.read_lines.ensures
    _ c.in_ok-read_lines.was _ _ c.fill_image.ensures c.lowest_of.ensures
