-- `page_found::page_found` meets its contract. The loop goes through the pages: with none before does the check refuse there.
use Rattle.std.proofs.Common.{ℕ, ◌≡◌, ◌<◌, false}
use Rattle.reports.specs.PageFound.{refuses_with}
use Rattle.reports.proofs.page_found.page_found.Given as goal

abbrev pub invariant-loop-page : goal.invariant-loop-page
invariant-loop-page l = (k : ℕ) → k < l.page → refuses_with l.image l.certificate l.wired l.address k ≡ false
