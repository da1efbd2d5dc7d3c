-- `packing::pack_parts` meets its contract.
use borrow.Author.Rules.{rules}
use Rattle.exports.specs.States.{packed}
use Rattle.exports.proofs.Pasting.{three_parts}
use Rattle.exports.proofs.packing.pack_parts.Goals as goal

pub returns : goal.returns
unfolding packed
returns c =
    let a = c.args in
    three_parts a.state.now a.bytes.now c.put.new.out c.put-2.new.out c.put-3.new.out
    a.c a.flags a.stack.now c.requires (search rules)
    c.put.ensures
    (rw c.control_bytes-control.ensures at c.put-2.ensures)
    (rw c.stack_bytes-returns.ensures at c.put-3.ensures)
