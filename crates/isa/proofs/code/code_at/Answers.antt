-- `code::code_at` meets its contract: three bytes of one half, or one by one.
use native.Mathlib.Omega.{arith}
use mathlib.Core.List.{◌++◌}
use Prim.Native.Nat.{◌+◌, ◌%◌, ◌≤◌}
use lib.ListN.{length}
use Rattle.isa.specs.Rom.{half_of}
use Rattle.isa.proofs.Halves.{rom_in_lem, rom_on}
use Rattle.isa.proofs.ThreeBytes.{read_three}
use Rattle.isa.proofs.code.code_at.Goals as goal

pub returns : goal.returns
returns c h low =
    let half = c.half-half in
    let page = c.args.space.page.now in
    let fixed = c.args.space.fixed.now in
    let a = c.args.address in
    let fits : a % 2048 + 3 ≤ length (half_of page fixed a) = rw half.ensures at c.if-half-at.false in
    rw half.ensures
    (read_three (page ++ fixed) a _ _ _
    (rom_in_lem page fixed h a low (omega arith))
    (rom_on page fixed h a 1 low (omega arith) (omega arith))
    (rom_on page fixed h a 2 low (omega arith) (omega arith)))
