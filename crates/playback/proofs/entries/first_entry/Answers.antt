-- `entries::first_entry` meets its contract: by the first byte, and by how many bytes there are.
use Rattle.std.proofs.Common.{arith, length-drop}
use Rattle.std.proofs.lemmas.List.{get_or-drop}
use Rattle.playback.proofs.Reading.{leads_step, leads_store, leads_reset, leads_none, to_end}
use Rattle.playback.proofs.entries.first_entry.Goals as goal

pub returns-in-len1-up : goal.returns-in-len1-up
returns-in-len1-up c =
    let body = c.args.body.now in
    let long = rw (to_end body 1 c.in-0.len_at_least, length-drop 1 body) at c.in-len1-up.len_at_least in
    rw (to_end body 1 c.in-0.len_at_least, get_or-drop) (leads_step body (omega arith) (omega (arith, long)))

pub returns-in-len2-up : goal.returns-in-len2-up
returns-in-len2-up c =
    let body = c.args.body.now in
    let long = rw (to_end body 1 c.in-1.len_at_least, length-drop 1 body) at c.in-len2-up.len_at_least in
    rw (to_end body 1 c.in-1.len_at_least, get_or-drop, get_or-drop) (leads_store body (omega arith) (omega (arith, long)))

pub returns-in-2 : goal.returns-in-2
returns-in-2 c = leads_reset _ (omega arith) (omega arith)

pub returns-in_default : goal.returns-in_default
returns-in_default c = leads_none _ (λ k h. omega arith) (λ k h. omega arith) (λ k h. omega arith)

pub returns-in_default-2 : goal.returns-in_default-2
returns-in_default-2 c = leads_none _ (λ k h. omega arith) (λ k h. omega arith) (λ k h. omega arith)

pub returns-in_default-operands : goal.returns-in_default-operands
returns-in_default-operands c =
    let body = c.args.body.now in
    let short = rw (to_end body 1 c.in-0.len_at_least, length-drop 1 body) at c.in_default-operands.len_below in
    leads_none _ (λ k h. omega (arith, short)) (λ k h. omega arith) (λ k h. omega arith)

pub returns-in_default-operands-2 : goal.returns-in_default-operands-2
returns-in_default-operands-2 c =
    let body = c.args.body.now in
    let short = rw (to_end body 1 c.in-1.len_at_least, length-drop 1 body) at c.in_default-operands-2.len_below in
    leads_none _ (λ k h. omega arith) (λ k h. omega (arith, short)) (λ k h. omega arith)
