-- `image::raw_image` meets its contract: by the file's size.
use Rattle.std.proofs.Common.{◌-◌, sym, ◌∙◌, arith, length}
use Rattle.isa.proofs.Halves.{sized}
use Rattle.options.specs.Image.{raw_got}
use Rattle.options.proofs.ImageLaws.{part_filled}
use Rattle.options.proofs.image.raw_image.Goals as goal

pub returns : goal.returns
unfolding raw_got
returns c =
    let args = c.args in
    let is = sym c.is_image_length.ensures ∙ c.if-not-is_image_length.false in
    let most = (sized (length args.file.now) is).most in
    let filled =
    part_filled args.space.now (20480 - length args.file.now) (omega (arith, c.requires)) args.file.now _
    c.copy_from_slice.ensures.after in
    rw (
      ← c.is_image_length.ensures,
      c.if-not-is_image_length.false,
      ← c.size_of-rom.ensures,
      ← c.may_be.ensures,
      c.if-not-may_be.false,
      filled,
    )
