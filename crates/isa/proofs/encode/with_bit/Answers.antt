-- `encode::with_bit` meets its contract.
use Rattle.std.proofs.Common.{◌≡◌, ◌+◌, ◌*◌, ◌/◌, ◌%◌, ◌∙◌, ap, arith}
use Rattle.isa.proofs.Reversed.{bits}
use Rattle.isa.proofs.encode.with_bit.Goals as goal

pub overflow_add-result : goal.overflow_add-result
overflow_add-result c =
    let bit = c.args.bit in
    let top : c.reverse_bits.result ≡ (bit % 2 * 4 + bit / 2 % 2 * 2 + bit / 4) * 32 =
    c.reverse_bits.ensures ∙ bits bit c.requires.1 in
    record { fits = omega (arith, c.requires.0, c.requires.1) }

pub returns : goal.returns
returns c = ap (λ n. n + c.args.base) (c.reverse_bits.ensures ∙ bits c.args.bit c.requires.1)
