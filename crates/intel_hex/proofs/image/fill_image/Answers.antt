-- `image::fill_image` meets its contract.
use Rattle.std.proofs.Common.{◌≡◌, ◌<◌, ◌∙◌, sym, arith, length}
use Rattle.std.proofs.Math.Seq.{ext_get_or}
use Rattle.intel_hex.specs.Image.{filled}
use Rattle.intel_hex.proofs.ImageLaws.{filled_length, filled_at}
use Rattle.intel_hex.proofs.image.fill_image.Goals as goal

pub returns : goal.returns
returns c =
    let args = c.args in
    let size = length args.image.now in
    let all : length c.loop-i.image ≡ length (filled args.fill args.memory.now args.first size) =
    c.loop-i.auto.image ∙ sym (filled_length args.fill args.memory.now args.first size) in
    ext_get_or 0 c.loop-i.image (filled args.fill args.memory.now args.first size) all
    (λ k h.
    let within : k < size = omega (arith, h, c.loop-i.auto.image) in
    c.loop-i.invariant k (omega arith) ∙ sym (filled_at args.fill args.memory.now args.first size k within))
