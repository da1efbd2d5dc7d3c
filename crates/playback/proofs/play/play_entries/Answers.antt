-- `play::play_entries` meets its contract: what each key leaves is what its entry, or the row of steps, leaves.
use Rattle.std.proofs.Common.{sym, ◌∙◌, arith}
use Rattle.playback.specs.Entries.{First}
use Rattle.playback.specs.declared.Entry.TheVariants.{Store, Reset}
use Rattle.playback.proofs.Held.{first_held, all_played, part_held, store_held, store_ends, reset_held}
use Rattle.playback.proofs.Held.{counted, row_held, row_ends}
use Rattle.playback.proofs.play.play_entries.Goals as goal

pub loop-entry-init : goal.loop-entry-init
loop-entry-init c = first_held _ _ _ c.fresh-machine.ensures c.requires.0

pub overflow_add-entries : goal.overflow_add-entries
overflow_add-entries c =
    let held = c.loop-entry.invariant in
    let counts = counted _ _ _ _ _ _ held _ _ c.gather-count.ensures _ _ _ _ c.key_run-report.ensures in
    omega (arith, counts.steps)

pub overflow_add-cycles : goal.overflow_add-cycles
overflow_add-cycles c =
    let held = c.loop-entry.invariant in
    let counts = counted _ _ _ _ _ _ held _ _ c.gather-count.ensures _ _ _ _ c.key_run-report.ensures in
    omega (arith, counts.steps, counts.cycles)

pub returns-then-is_err : goal.returns-then-is_err
returns-then-is_err c =
    row_ends _ _ _ _ _ _ c.loop-entry.invariant _ _ c.gather-count.ensures _ _ _ _ c.key_run-report.ensures
    (sym c.is_err.ensures.value ∙ c.if-is_err.true)

pub loop-entry-preserved-in-Step : goal.loop-entry-preserved-in-Step
loop-entry-preserved-in-Step c =
    let held = c.loop-entry.invariant in
    part_held _ _ _ _ _ _ held _ c.gather-count.ensures.within _ _ _
    (row_held _ _ _ _ _ _ held _ _ c.gather-count.ensures _ _ _ _ c.key_run-report.ensures
    (sym c.is_err.ensures.value ∙ c.if-is_err.false))

pub returns-then-is_err-2 : goal.returns-then-is_err-2
returns-then-is_err-2 c =
    let first : First c.loop-entry.rest.now (Store c.in-Store.address c.in-Store.value) c.in-Some.size =
    rw c.in-Store.is at c.in-Some.ensures in
    store_ends _ _ _ _ _ _ c.loop-entry.invariant _ _ _ first _ _ c.key_store-ending.ensures
    (sym c.is_err-in-Store.ensures.value ∙ c.if-is_err-2.true)

pub loop-entry-preserved-in-Store : goal.loop-entry-preserved-in-Store
loop-entry-preserved-in-Store c =
    let held = c.loop-entry.invariant in
    let first : First c.loop-entry.rest.now (Store c.in-Store.address c.in-Store.value) c.in-Some.size =
    rw c.in-Store.is at c.in-Some.ensures in
    part_held _ _ _ _ _ _ held _ first.fits _ _ _
    (store_held _ _ _ _ _ _ held _ _ _ first _ _ c.key_store-ending.ensures
    (sym c.is_err-in-Store.ensures.value ∙ c.if-is_err-2.false))

pub loop-entry-preserved : goal.loop-entry-preserved
loop-entry-preserved c =
    let held = c.loop-entry.invariant in
    let first : First c.loop-entry.rest.now Reset c.in-Some.size = rw c.in-Reset.is at c.in-Some.ensures in
    part_held _ _ _ _ _ _ held _ first.fits _ _ _ (reset_held _ _ _ _ _ _ held _ first _ c.key_reset.ensures)

pub returns : goal.returns
returns c = all_played _ _ _ _ _ _ c.loop-entry.invariant c.in_default.ensures
