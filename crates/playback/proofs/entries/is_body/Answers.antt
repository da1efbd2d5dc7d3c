-- `entries::is_body` meets its contract: behind an entry the rest is read exactly where the whole is.
use Rattle.std.proofs.Common.{sym, ap, ◌∙◌, arith, length-drop}
use Rattle.playback.specs.Entries.{is_body}
use Rattle.playback.proofs.Reading.{to_end, rest_body, none_body}
use Rattle.playback.proofs.entries.is_body.Goals as goal

pub slice_bounds-rest-count : goal.slice_bounds-rest-count
slice_bounds-rest-count c = c.in-Some.ensures.fits

pub slice_bounds-rest-start : goal.slice_bounds-rest-start
slice_bounds-rest-start c = omega (arith, c.in-Some.ensures.fits)

pub loop-size-smaller : goal.loop-size-smaller
loop-size-smaller c =
    let first = c.in-Some.ensures in
    rw (to_end _ _ first.fits) (omega (arith, length-drop c.in-Some.size c.loop-size.rest.now))

pub loop-size-preserved : goal.loop-size-preserved
loop-size-preserved c =
    let first = c.in-Some.ensures in
    ap is_body (to_end _ _ first.fits) ∙ rest_body _ _ _ first ∙ c.loop-size.invariant

pub returns : goal.returns
returns c = c.is_empty.ensures ∙ sym (none_body _ c.in_default.ensures) ∙ c.loop-size.invariant
