-- `check::check_marks` meets its contract: the marks before the index pass.
use Rattle.std.proofs.Common.{◌≡◌, ℕ, ◌+◌, ◌<◌, ◌++◌, get_or}
use Rattle.certificate.specs.Marks.{lowest}
use Rattle.certificate.specs.Findings.{passes}
use Rattle.certificate.specs.Passes.{page_found}
use Rattle.certificate.proofs.check.check_marks.Given as goal

abbrev pub invariant-loop-at : goal.invariant-loop-at
invariant-loop-at l =
    (j : ℕ) → j < l.at
    → page_found (l.space.page.now ++ l.space.fixed.now) l.certificate (lowest l.certificate + j) (get_or l.certificate j 0) ≡ passes
