-- `row::gather` meets its contract: the first request is a row, and each after it makes a longer one.
use Rattle.std.proofs.Common.{◌∙◌}
use Rattle.std.proofs.Math.ListN.{length-set}
use Rattle.playback.proofs.Gathering.{first_row, more_row}
use Rattle.playback.proofs.row.gather.Goals as goal

pub loop-i-init : goal.loop-i-init
loop-i-init c = record {
  room = length-set c.args.requests.now 0 c.args.first ∙ c.told-requests;
  row = first_row c.args.body.now c.args.requests.now c.args.first c.told-requests c.requires;
}

pub loop-i-preserved : goal.loop-i-preserved
loop-i-preserved c =
    let loop = c.loop-i in
    record {
      room = length-set loop.requests loop.i c.in-Some.request ∙ loop.invariant.room;
      row =
          more_row c.args.body.now loop.requests loop.i c.in-Some.request loop.invariant.room loop.invariant.row
          c.in-Some.ensures c.loop-i-test.true;
    }
