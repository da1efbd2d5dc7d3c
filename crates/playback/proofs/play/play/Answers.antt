-- `play::play` meets its contract: 1, then the header's refusals, then the body.
use Rattle.std.proofs.Common.{◌≡◌, true, sym, ap, ◌∙◌, length}
use Rattle.std.proofs.lemmas.Result.{err_from_is_err_and}
use Rattle.isa.specs.Rom.{is_image}
use Rattle.playback.specs.Play.{play_of, played_by}
use Rattle.playback.specs.Entries.{entries_of}
use Rattle.playback.proofs.Reading.{to_end, not_body}
use Rattle.playback.proofs.play.play.Goals as goal

pub returns-then-not-is_image_length : goal.returns-then-not-is_image_length
unfolding play_of
returns-then-not-is_image_length c = rw (← c.is_image_length.ensures, c.if-not-is_image_length.true)

pub returns-in_err-start : goal.returns-in_err-start
unfolding play_of
returns-in_err-start c =
    let size : is_image (length c.args.image.now) ≡ true =
    sym c.is_image_length.ensures ∙ c.if-not-is_image_length.false in
    let p = err_from_is_err_and c.from_residual.result c.from_residual.ensures.1 in
    rw (size, c.in_err-start.ensures, p.1, p.2)

pub returns-then-not-is_body : goal.returns-then-not-is_body
unfolding play_of
returns-then-not-is_body c =
    let size : is_image (length c.args.image.now) ≡ true =
    sym c.is_image_length.ensures ∙ c.if-not-is_image_length.false in
    let body = c.in_ok-start.ensures in
    rw (size, body.is, ← to_end _ _ body.fits, not_body _ (sym c.is_body.ensures ∙ c.if-not-is_body.true))

pub returns : goal.returns
unfolding play_of
returns c =
    let size : is_image (length c.args.image.now) ≡ true =
    sym c.is_image_length.ensures ∙ c.if-not-is_image_length.false in
    let body = c.in_ok-start.ensures in
    rw (size, body.is)
    (c.play_entries.ensures ∙ ap (λ b. played_by c.args.image.now (entries_of b)) (to_end _ _ body.fits))
