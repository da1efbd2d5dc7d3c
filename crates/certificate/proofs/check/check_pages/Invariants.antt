-- `check::check_pages` meets its contract: what is known after a pass with each page so far.
use Rattle.isa.specs.Refusals.{answered}
use Rattle.certificate.proofs.Pages.{Known}
use Rattle.certificate.proofs.check.check_pages.Given as goal

abbrev pub invariant-loop-page : goal.invariant-loop-page
invariant-loop-page l = Known l.image l.certificate l.page l.end (answered l.first)
