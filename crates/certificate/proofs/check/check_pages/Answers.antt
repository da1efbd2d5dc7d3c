-- `check::check_pages` meets its contract: what is known after a pass with each page so far.
use Rattle.std.proofs.Common.{◌≡◌, ◌-◌, length, arith}
use Rattle.isa.specs.Rom.{space_of, spaces_in, pages_in}
use Rattle.isa.proofs.Halves.{halves}
use Rattle.certificate.proofs.Pages.{known_more, known_all}
use Rattle.certificate.proofs.check.check_pages.Goals as goal
use Rattle.certificate.proofs.check.check_pages.Goals.{in-Err, in_default}

pub check_marks-requires : goal.check_marks-requires
check_marks-requires c =
    (rw (c.of.ensures.page, c.of.ensures.fixed) (halves c.args.image.now _ c.requires.0), c.requires.1, c.loop-page.invariant.fits)

pub loop-page-preserved : goal.loop-page-preserved
unfolding space_of
loop-page-preserved c =
    elim c.match-check_marks.branch [
      | in-Err w ↦
          let searched = rw (c.of.ensures.page, c.of.ensures.fixed) at w.in-Err.ensures in
          rw (w.first-is, w.end-is) (known_more _ _ _ _ _ c.loop-page.invariant _ _ searched)
      | in_default w ↦
          let searched = rw (c.of.ensures.page, c.of.ensures.fixed) at w.in_default.ensures in
          rw (w.first-is, w.end-is) (known_more _ _ _ _ _ c.loop-page.invariant _ _ searched)
    ]

pub returns : goal.returns
returns c =
    let image = c.args.image.now in
    let all : c.loop-page.page ≡ spaces_in (length image) = omega (arith, c.spaces_in-spaces.ensures c.requires.0) in
    known_all image _ (pages_in (length image) - 1) _ _ (rw all at c.loop-page.invariant)
