-- `Line::spaces_to` meets its contract: the spaces that are put are those that fit.
use Rattle.std.proofs.Common.{◌-◌, ◌≡◌, length, min}
use Rattle.text_line.specs.Letters.{bytes_counted}
use Rattle.text_line.proofs.LineLaws.{spaces_cut}
use Rattle.text_line.proofs.line.Line.spaces_to.Goals as goal

pub returns : goal.returns
returns g c =
    let counted = rw c.self.view_is at (bytes_counted c.self.invariant) in
    let least : c.min-missing.result ≡ min (c.args.column - length c.args.self) g.row.N =
    rw (counted, c.min-missing.ensures, c.saturating_sub.ensures) in
    spaces_cut g.row.N (c.args.column - length c.args.self) c.min-missing.result least c.word.ensures
