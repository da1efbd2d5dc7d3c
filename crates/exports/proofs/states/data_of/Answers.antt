-- `states::data_of` meets its contract: the part that is copied has 256 bytes.
use Rattle.std.proofs.Common.{◌≤◌, length, sym, arith}
use Rattle.std.proofs.lemmas.List.{length-take-le}
use Rattle.exports.proofs.states.data_of.Goals as goal

pub slice_bounds-copy_from_slice-end-2 : goal.slice_bounds-copy_from_slice-end-2
slice_bounds-copy_from_slice-end-2 c =
    let within : 256 ≤ length c.args.state.now = omega arith in sym (length-take-le 256 c.args.state.now within)
