-- `address_line::refusal_text` meets its contract.
use borrow.Author.Tests.{eq-eqb, ne_eqb}
use Rattle.listing.proofs.address_line.refusal_text.Goals as goal

pub returns-in-Plain : goal.returns-in-Plain
returns-in-Plain c =
    rw (← c.number_of.ensures, c.in-Plain.is) c.word.ensures

pub returns-then-number-eq5 : goal.returns-then-number-eq5
returns-then-number-eq5 c =
    rw (← c.number_of.ensures, c.in-Located.is, eq-eqb _ _ c.if-number-eq5.true)
    c.word-then-number-eq5.ensures

pub returns-else-number-eq5 : goal.returns-else-number-eq5
returns-else-number-eq5 c =
    rw (← c.number_of.ensures, c.in-Located.is, ne_eqb _ _ c.if-number-eq5.false)
    c.word-else-number-eq5.ensures
