-- `fetch::decoded` meets its contract.
use mathlib.Core.Path.{◌≡◌, sym, ◌∙◌}
use native.Mathlib.Omega.{arith}
use Prim.Native.Nat.{◌%◌}
use Rattle.std.specs.Prelude.{Ok}
use Rattle.std.proofs.lemmas.Result.{err_from_is_err_and}
use Rattle.isa.specs.Refusals.{done}
use Rattle.isa.specs.Lengths.{length_of}
use Rattle.isa.specs.Rom.{space_of}
use Rattle.isa.specs.Decode.{decode_of}
use Rattle.isa.specs.Decode as decode
use Rattle.isa.proofs.AtAddress.{in_range, in_space}
use Rattle.isa.proofs.Halves.{is_space_lem}
use Rattle.isa.proofs.DecodedLength.{decoded_length}
use Rattle.isa.proofs.CyclesFit.{cycles_fit}
use Rattle.machine.specs.Fetch.{fetched_as}
use Rattle.machine.proofs.Store.{coherent_set}
use Rattle.machine.proofs.fetch.decoded.Goals as goal

pub returns-in_err-found : goal.returns-in_err-found
returns-in_err-found c =
    let p = err_from_is_err_and c.from_residual.result c.from_residual.ensures.1 in (
      rw (p.1, p.2) (rw c.in_err-found.was at (c.decode_in_range.ensures c.requires.0 c.requires.1)),
      c.requires.3,
    )

pub returns : goal.returns
returns c =
    let image = c.args.image.now in
    let space = space_of image c.args.bank in
    let v = c.in_ok-found.found in
    let decoded : done (decode.instruction v.instruction v.length v.cycles) ≡ decode_of space
    c.args.address =
    rw c.in_ok-found.was at (c.decode_in_range.ensures c.requires.0 c.requires.1) in
    let long : v.length ≡ length_of v.instruction = decoded_length image _ _ _ _ _
    (in_space image _ _ c.requires.0 ∙ sym (in_range space _ (is_space_lem image _ c.requires.0) c.requires.1)
    ∙ sym decoded) in
    let digit : v.cycles % 16 ≡ v.cycles = omega (arith, cycles_fit space _ _ _ _ decoded) in
    let made = c.predecode-word.ensures in
    let whole : fetched_as (Ok c.predecode-word.result) ≡ decode_of space c.args.address =
    rw (made.instruction, made.timed, digit, ← long) decoded in (
      whole,
      coherent_set image c.args.store.now _ _ _ _ c.requires.2 c.requires.3 c.requires.1
          made.tagged whole,
    )
