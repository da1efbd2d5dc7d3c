-- `fields::begins_with` meets its contract.
use Rattle.std.proofs.Common.{take}
use Rattle.std.proofs.lemmas.Slice.Eq.{slice_eq-Decides}
use Rattle.std.proofs.lemmas.Bool.Decides.{Decides-eqb}
use Rattle.exports.proofs.Rows.{same_front}
use Rattle.exports.proofs.fields.begins_with.Goals as goal

pub returns : goal.returns
returns c =
    let fields = c.args.fields.now in
    let same = slice_eq-Decides Decides-eqb (take 7 fields) c.as_slice.result.now c.eq.result c.eq.ensures in
    same_front fields c.args.row.now c.told-row c.requires c.eq.result (rw c.as_slice.ensures at same)
