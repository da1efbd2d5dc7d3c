-- `Line::word` meets its contract: the bytes for which there is room stand after the line's own.
use Rattle.std.proofs.Common.{◌≡◌, ◌+◌, ◌-◌, arith}
use Rattle.text_line.proofs.line.Line.word.Goals as goal
use Rattle.text_line.proofs.LineLaws.{within, adds}

pub invariant_of-self : goal.invariant_of-self
invariant_of-self g c =
    let k : c.self.inside.count + c.min-count.result - c.self.inside.count ≡ c.min-count.result = omega arith in
    rw k (within _ _ _ _ _ _ c.self.invariant c.min-count.ensures c.copy_from_slice.ensures.after)

pub returns : goal.returns
returns g c =
    let k : c.self.inside.count + c.min-count.result - c.self.inside.count ≡ c.min-count.result = omega arith in
    rw (k, ← c.self.view_is)
    (adds _ _ _ _ _ _ c.self.invariant c.min-count.ensures c.copy_from_slice.ensures.after)
