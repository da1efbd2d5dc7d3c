-- `wired::bits_of` meets its contract.
use Rattle.std.proofs.Common.{sym, ◌∙◌, rules}
use Rattle.options.proofs.WiredLaws.{last_source, no_source, one_source}
use Rattle.options.proofs.wired.bits_of.Goals as goal

pub returns-in_err-byte : goal.returns-in_err-byte
returns-in_err-byte c =
    let loop = c.loop-end in
    rw c.from_residual.ensures
    (sym (no_source loop.byte loop.rest.now c.in-Some.end (sym c.in-Some.ensures.first)
    (sym c.bit_of.ensures ∙ c.in_err-byte.was))
    ∙ loop.invariant.1)

pub loop-end-preserved : goal.loop-end-preserved
loop-end-preserved c =
    let loop = c.loop-end in
    let one =
    one_source loop.byte loop.rest.now c.in-Some.end (sym c.in-Some.ensures.first) c.in_ok-byte.field-0
    (sym c.bit_of.ensures ∙ c.in_ok-byte.was) c.in-Some.ensures.within in
    (search rules, one ∙ loop.invariant.1)

pub returns-in_err-last : goal.returns-in_err-last
returns-in_err-last c =
    let loop = c.loop-end in
    let last = last_source loop.byte loop.rest.now (sym c.place_of.ensures.first ∙ c.in_default.is) in
    rw c.from_residual-in_err-last.ensures
    (sym (rw (sym c.bit_of-2.ensures ∙ c.in_err-last.was) at last) ∙ loop.invariant.1)

pub returns : goal.returns
returns c =
    let loop = c.loop-end in
    let last = last_source loop.byte loop.rest.now (sym c.place_of.ensures.first ∙ c.in_default.is) in
    sym (rw (sym c.bit_of-2.ensures ∙ c.in_ok-last.was) at last) ∙ loop.invariant.1
