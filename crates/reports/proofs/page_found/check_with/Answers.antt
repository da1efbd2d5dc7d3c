-- `page_found::check_with` meets its contract.
use Rattle.std.proofs.Common.{◌∙◌}
use Rattle.isa.specs.Rom.{space_of}
use Rattle.isa.proofs.Halves.{halves, page_whole}
use borrow.Author.Rules.{rules}
use Rattle.reports.proofs.page_found.check_with.Goals as goal

pub join-requires : goal.join-requires
join-requires c =
    let image = c.args.image.now in
    rw (c.page_of.ensures, c.fixed_of.ensures) (
      page_whole image c.args.page c.requires.1,
      (halves image c.args.page c.requires.0).1,
      search rules,
    )

pub returns : goal.returns
unfolding space_of
returns c = c.check.ensures ∙ rw (rw (c.page_of.ensures, c.fixed_of.ensures) at c.join.ensures)
