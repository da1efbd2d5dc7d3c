-- `make::make` meets its contract: 1, 11, 25, then what comes of the marks.
use mathlib.Core.Path.{sym, ◌∙◌}
use Rattle.maker.proofs.Answering.{new_sound}
use Rattle.maker.proofs.make.make.Goals as goal

pub complete-requires : goal.complete-requires
complete-requires c =
    rw c.marks_in-size.ensures (
      new_sound c.args.image.now _
          (sym c.is_image_length.ensures
          ∙ c.if-not-is_image_length.false),
      (sym c.names_only_sources.ensures
          ∙ c.if-not-names_only_sources.false),
    )
