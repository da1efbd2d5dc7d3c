-- `image::hex_image` meets its contract: by the size that is asked for.
use Rattle.std.proofs.Common.{◌≡◌, ap, ◌∙◌}
use Rattle.std.specs.Prelude.{Some}
use Rattle.std.proofs.lemmas.Result.{err_from_is_err_and}
use Rattle.options.specs.declared.image.Asked.{Asked}
use Rattle.options.specs.declared.image.Asked.TheVariants as asked
use Rattle.options.proofs.ImageLaws.{large_read, lowest_read, small_read}
use Rattle.options.proofs.image.hex_image.Goals as goal

pub returns-in_err-read-in-Some-Small : goal.returns-in_err-read-in-Some-Small
returns-in_err-read-in-Some-Small c =
    let p = err_from_is_err_and c.from_residual.result c.from_residual.ensures.1 in
    let asks : c.args.asked ≡ Some asked.Small =
    c.in-Some-Small.is ∙ ap (λ (x : Asked). Some x) (rw c.in-Some-Small.is at c.in-Some-Small.field-0-is) in
    rw asks
    (small_read c.args.space.now c.requires c.args.file.now c.args.fill _ c.read.result _ c.read.ensures
    (rw (c.in_err-read-in-Some-Small.was, p.1, p.2)))

pub returns-in_err-read-in-Some-Large : goal.returns-in_err-read-in-Some-Large
returns-in_err-read-in-Some-Large c =
    let p = err_from_is_err_and c.from_residual-in_err-read-in-Some-Large.result
    c.from_residual-in_err-read-in-Some-Large.ensures.1 in
    let asks : c.args.asked ≡ Some asked.Large =
    c.in-Some-Large.is ∙ ap (λ (x : Asked). Some x) (rw c.in-Some-Large.is at c.in-Some-Large.field-0-is) in
    rw asks
    (large_read c.args.space.now c.requires c.args.file.now c.args.fill _ c.read-in-Some-Large.result _
    c.read-in-Some-Large.ensures (rw (c.in_err-read-in-Some-Large.was, p.1, p.2)))

pub returns-in_err-read-in-None : goal.returns-in_err-read-in-None
returns-in_err-read-in-None c =
    let p = err_from_is_err_and c.from_residual-in_err-read-in-None.result
    c.from_residual-in_err-read-in-None.ensures.1 in
    rw c.in-None.is
    (lowest_read c.args.space.now c.requires c.args.file.now c.args.fill _ c.read-in-None.result _
    c.read-in-None.ensures (rw (c.in_err-read-in-None.was, p.1, p.2)))

pub returns-in_ok-read-in-Some-Small : goal.returns-in_ok-read-in-Some-Small
returns-in_ok-read-in-Some-Small c =
    let asks : c.args.asked ≡ Some asked.Small =
    c.in-Some-Small.is ∙ ap (λ (x : Asked). Some x) (rw c.in-Some-Small.is at c.in-Some-Small.field-0-is) in
    rw asks
    (small_read c.args.space.now c.requires c.args.file.now c.args.fill _ c.read.result _ c.read.ensures
    (rw c.in_ok-read-in-Some-Small.was))

pub returns-in_ok-read-in-Some-Large : goal.returns-in_ok-read-in-Some-Large
returns-in_ok-read-in-Some-Large c =
    let asks : c.args.asked ≡ Some asked.Large =
    c.in-Some-Large.is ∙ ap (λ (x : Asked). Some x) (rw c.in-Some-Large.is at c.in-Some-Large.field-0-is) in
    rw asks
    (large_read c.args.space.now c.requires c.args.file.now c.args.fill _ c.read-in-Some-Large.result _
    c.read-in-Some-Large.ensures (rw c.in_ok-read-in-Some-Large.was))

pub returns-in_ok-read-in-None : goal.returns-in_ok-read-in-None
returns-in_ok-read-in-None c =
    rw c.in-None.is
    (lowest_read c.args.space.now c.requires c.args.file.now c.args.fill _ c.read-in-None.result _
    c.read-in-None.ensures (rw c.in_ok-read-in-None.was c.by_lowest.ensures))
