-- `crc::after_byte` meets its contract.
use Rattle.std.proofs.Common.{ℕ, zero, suc, ◌≡◌, ◌+◌, ◌-◌, ◌<◌, ◌∙◌, arith, refl}
use Rattle.intel_hex.specs.Crc.{after_bit, after_bits}
use Rattle.intel_hex.proofs.crc.after_byte.Goals as goal

bit_more : (n register : ℕ) → 0 < n → after_bits (n - 1) (after_bit register) ≡ after_bits n register
unfolding after_bits
bit_more zero r h = absurd (omega arith)
bit_more (suc n) r h = let one : suc n - 1 ≡ n = omega arith in rw one

no_bits : (register : ℕ) → register ≡ after_bits 0 register
unfolding after_bits
no_bits r = refl

pub loop-preserved : goal.loop-preserved
loop-preserved c =
    let less : 8 - (c.loop.counter + 1) ≡ 8 - c.loop.counter - 1 = omega arith in
    rw (less, c.after_bit-r.ensures)
    (bit_more (8 - c.loop.counter) c.loop.r (omega arith) ∙ c.loop.invariant)

pub returns : goal.returns
returns c =
    let all : 8 - c.loop.counter ≡ 0 = omega arith in
    no_bits c.loop.r ∙ (rw all at c.loop.invariant)
