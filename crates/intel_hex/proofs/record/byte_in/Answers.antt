-- `record::byte_in` meets its contract: each character is a digit.
use Rattle.std.proofs.Common.{◌≡◌, ◌+◌, ◌*◌, ◌∙◌, sym, get_or, arith}
use Rattle.intel_hex.specs.Digits.{digit_of}
use Rattle.intel_hex.proofs.DigitLaws.{is_digit_at, digit_below, pair_at_lem}
use Rattle.intel_hex.proofs.record.byte_in.Goals as goal

pub unwrap-high-requires : goal.unwrap-high-requires
unwrap-high-requires c =
    rw c.digit_of.ensures.value (is_digit_at c.args.digits.now (c.args.k * 2) c.requires.digits (omega arith))

pub unwrap-low-requires : goal.unwrap-low-requires
unwrap-low-requires c =
    rw c.digit_of-2.ensures.value (is_digit_at c.args.digits.now (c.args.k * 2 + 1) c.requires.digits c.requires.within)

pub overflow_mul-result : goal.overflow_mul-result
overflow_mul-result c =
    let high = digit_below _ c.unwrap-high.result (sym c.digit_of.ensures.value ∙ c.unwrap-high.ensures) in
    omega arith

pub overflow_add-result : goal.overflow_add-result
overflow_add-result c =
    let high = digit_below _ c.unwrap-high.result (sym c.digit_of.ensures.value ∙ c.unwrap-high.ensures) in
    let low = digit_below _ c.unwrap-low.result (sym c.digit_of-2.ensures.value ∙ c.unwrap-low.ensures) in
    omega arith

pub returns : goal.returns
returns c =
    let digits = c.args.digits.now in
    let high : digit_of (get_or digits (c.args.k * 2) 0) ≡ _ = sym c.digit_of.ensures.value ∙ c.unwrap-high.ensures in
    let low : digit_of (get_or digits (c.args.k * 2 + 1) 0) ≡ _ = sym c.digit_of-2.ensures.value ∙ c.unwrap-low.ensures in
    rw (pair_at_lem digits c.args.k c.requires.within, high, low)
