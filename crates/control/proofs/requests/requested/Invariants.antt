-- `requests::requested` meets its contract. The loop's invariant: the sources from the index on give the result.
use Rattle.std.proofs.Common.{◌≡◌, drop}
use Rattle.control.specs.Requests.{requested_of}
use Rattle.control.proofs.FirstTaken.{first_taken}
use Rattle.control.proofs.requests.requested.Given as goal

abbrev pub invariant-loop-source : goal.invariant-loop-source
invariant-loop-source l =
    first_taken l.mode l.enabled l.request (drop l.source-index l.source-items)
    ≡ requested_of l.mode l.enabled l.request
