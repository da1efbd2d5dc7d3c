-- `make::complete` meets its contract.
use mathlib.Core.Path.{refl}
use Rattle.std.proofs.lemmas.Result.{err_from_is_err_and}
use Rattle.maker.proofs.make.complete.Goals as goal

pub returns-in_err-spread : goal.returns-in_err-spread
returns-in_err-spread c =
    let p = err_from_is_err_and c.from_residual-in_err-spread.result c.from_residual-in_err-spread.ensures.1 in
    rw (p.1, p.2)
    ((c.in_err-spread.ensures _ (c.in_ok-seed.ensures _ c.requires.0).sound).told, refl)

pub settle-requires : goal.settle-requires
settle-requires c = ((c.in_ok-spread.ensures _ (c.in_ok-seed.ensures _ c.requires.0).sound).sound, c.requires.1)
