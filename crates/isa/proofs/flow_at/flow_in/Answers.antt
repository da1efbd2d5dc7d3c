-- `flow_at::flow_in` meets its contract: program space as it stands has the image's page and its fixed half.
use Rattle.isa.specs.Rom.{space_of}
use Rattle.isa.proofs.Halves.{halves}
use Rattle.isa.proofs.flow_at.flow_in.Goals as goal

pub returns : goal.returns
unfolding space_of
returns c is low =
    rw (← c.space_in.ensures.page, ← c.space_in.ensures.fixed)
    (c.flow_at.ensures (rw (c.space_in.ensures.page, c.space_in.ensures.fixed) (halves c.args.image.now c.args.bank is)) low)
