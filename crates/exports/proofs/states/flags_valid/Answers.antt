-- `states::flags_valid` meets its contract.
use Rattle.exports.proofs.StateBytes.{flags_as_list}
use Rattle.exports.proofs.states.flags_valid.Goals as goal

pub returns : goal.returns
returns c = flags_as_list c.args.state.now c.requires c.are_flags.result c.are_flags.ensures
