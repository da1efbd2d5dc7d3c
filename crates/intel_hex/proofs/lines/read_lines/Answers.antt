-- `lines::read_lines` meets its contract.
use Rattle.std.proofs.Common.{ℕ, ◌≡◌, ◌<◌, ◌∙◌, sym, arith, length, take}
use borrow.Author.Tests.{eqb-true, eqb-false}
use Rattle.intel_hex.specs.Lines.{without_last}
use Rattle.intel_hex.proofs.LineLaws.{size_within, size_some}
use Rattle.intel_hex.proofs.ReadLaws.{line_faulty, line_on, turn_refused, turn_on, text_ends, text_breaks}
use Rattle.intel_hex.proofs.lines.read_lines.Goals as goal

not_zero : (n : ℕ) → (n ≡ 0 → ⊥) → 0 < n
not_zero n h = omega arith

pub split_at-requires : goal.split_at-requires
split_at-requires c = rw c.line_size.ensures (size_within c.loop-rest.rest.now)

pub returns-in-Err : goal.returns-in-Err
returns-in-Err c =
    let loop = c.loop-rest in
    let size = c.line_size.result in
    let raw = take size loop.rest.now in
    let cut : c.without_last.result.now ≡ without_last 10 raw = rw (← c.split_at.ensures.front) c.without_last.ensures in
    let some : 0 < length loop.rest.now =
    not_zero _ (eqb-false _ _ (sym c.is_empty.ensures ∙ c.loop-rest-test.true)) in
    let faulted =
    line_faulty c.args.first loop.ended loop.memory raw c.without_last.result.now c.without_last-line.result.now cut
    c.without_last-line.ensures c.take_line.result c.take_line.new.memory c.take_line.ensures c.in-Err.fault
    c.in-Err.is in
    turn_refused c.args.first loop.ended loop.number loop.memory loop.rest.now size some c.line_size.ensures
    c.in-Err.fault faulted
    ∙ loop.invariant.1

pub loop-rest-smaller : goal.loop-rest-smaller
loop-rest-smaller c =
    let rest = c.loop-rest.rest.now in
    let some : 0 < length rest = not_zero _ (eqb-false _ _ (sym c.is_empty.ensures ∙ c.loop-rest-test.true)) in
    omega (arith, c.split_at.ensures.back_len, c.line_size.ensures, size_some rest some)

pub loop-rest-preserved : goal.loop-rest-preserved
loop-rest-preserved c =
    let loop = c.loop-rest in
    let size = c.line_size.result in
    let raw = take size loop.rest.now in
    let cut : c.without_last.result.now ≡ without_last 10 raw = rw (← c.split_at.ensures.front) c.without_last.ensures in
    let some : 0 < length loop.rest.now =
    not_zero _ (eqb-false _ _ (sym c.is_empty.ensures ∙ c.loop-rest-test.true)) in
    let passed =
    line_on c.args.first loop.ended loop.memory raw c.without_last.result.now c.without_last-line.result.now cut
    c.without_last-line.ensures c.take_line.result c.take_line.new.memory c.take_line.ensures c.in-Ok.on c.in-Ok.is in (
      omega (arith, c.split_at.ensures.back_len, c.line_size.ensures, size_some loop.rest.now some),
      rw c.split_at.ensures.back
          (turn_on c.args.first loop.ended loop.number loop.memory loop.rest.now size some c.line_size.ensures
          c.in-Ok.on c.take_line.new.memory passed)
          ∙ loop.invariant.1,
    )

pub returns-then-ended : goal.returns-then-ended
returns-then-ended c =
    let loop = c.loop-rest in
    let none = eqb-true (length loop.rest.now) 0 (sym c.is_empty.ensures ∙ c.loop-rest-test.false) in
    text_ends c.args.first loop.number loop.memory loop.rest.now none ∙ (rw c.if-ended.true at loop.invariant.1)

pub returns-else-ended : goal.returns-else-ended
returns-else-ended c =
    let loop = c.loop-rest in
    let none = eqb-true (length loop.rest.now) 0 (sym c.is_empty.ensures ∙ c.loop-rest-test.false) in
    text_breaks c.args.first loop.number loop.memory loop.rest.now none ∙ (rw c.if-ended.false at loop.invariant.1)
