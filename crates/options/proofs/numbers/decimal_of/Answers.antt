-- `numbers::decimal_of` meets its contract.
use Rattle.std.proofs.Common.{sym, ◌∙◌, arith}
use borrow.Author.Tests.{eqb-true, eqb-false}
use Rattle.options.proofs.NumberLaws.{above_digits, all_digits, below_digits, no_text, one_more, some_text}
use Rattle.options.proofs.NumberLaws.{too_large}
use Rattle.options.proofs.numbers.decimal_of.Goals as goal
use Rattle.options.proofs.numbers.decimal_of.Goals.{then-letter-lt48-via-then-letter-lt48, then-letter-lt48-via-else-letter-lt48+then-letter-gt57}

pub returns-then-is_empty : goal.returns-then-is_empty
returns-then-is_empty c =
    sym (no_text c.args.text.now (eqb-true _ _ (sym c.is_empty.ensures ∙ c.if-is_empty.true)))

pub returns-then-letter-lt48 : goal.returns-then-letter-lt48
returns-then-letter-lt48 c =
    let text = c.args.text.now in
    let loop = c.loop-letter in
    let some = some_text text (eqb-false _ _ (sym c.is_empty.ensures ∙ c.if-is_empty.false)) in
    elim c.then-letter-lt48.branch [
      | then-letter-lt48-via-then-letter-lt48 w ↦
          sym (some ∙ sym loop.invariant.1
          ∙ below_digits text loop.letter-index c.loop-letter-test.true loop.value w.if-letter-lt48.true)
      | then-letter-lt48-via-else-letter-lt48+then-letter-gt57 w ↦
          sym (some ∙ sym loop.invariant.1
          ∙ above_digits text loop.letter-index c.loop-letter-test.true loop.value w.if-letter-gt57.true)
    ]

pub returns-then-value-gt65535 : goal.returns-then-value-gt65535
returns-then-value-gt65535 c =
    let text = c.args.text.now in
    let loop = c.loop-letter in
    let some = some_text text (eqb-false _ _ (sym c.is_empty.ensures ∙ c.if-is_empty.false)) in
    let large =
    too_large text loop.letter-index c.loop-letter-test.true loop.value c.if-letter-lt48.false c.if-letter-gt57.false
    (rw c.from.ensures at c.if-value-gt65535.true) in
    sym (some ∙ sym loop.invariant.1 ∙ large)

pub loop-letter-preserved : goal.loop-letter-preserved
loop-letter-preserved c =
    let loop = c.loop-letter in
    let one =
    one_more c.args.text.now loop.letter-index c.loop-letter-test.true loop.value c.if-letter-lt48.false
    c.if-letter-gt57.false in
    (omega arith, rw c.from.ensures (one ∙ loop.invariant.1))

pub returns : goal.returns
returns c =
    let text = c.args.text.now in
    let loop = c.loop-letter in
    let some = some_text text (eqb-false _ _ (sym c.is_empty.ensures ∙ c.if-is_empty.false)) in
    let all = all_digits text loop.letter-index loop.value (omega arith) loop.invariant.0 in
    sym (some ∙ sym loop.invariant.1 ∙ all)
