-- `header::find_body` meets its contract: each refusal by its case, then where the body begins.
use Prim.Native.Nat.{◌+◌, ◌≤◌}
use native.Mathlib.Omega.{arith}
use mathlib.Core.Path.{◌≡◌}
use lib.ListN.{length}
use Rattle.isa.specs.Refusals.{plain}
use Rattle.playback.specs.Record.{count_of}
use Rattle.playback.specs.Refusals as why
use Rattle.playback.proofs.HeaderCases.{starts, refuses}
use Rattle.playback.proofs.header.find_body.Goals as goal

pub returns-then-recording-lt-HEADER_BYTES : goal.returns-then-recording-lt-HEADER_BYTES
returns-then-recording-lt-HEADER_BYTES c = refuses _ (plain 28) (why.under_three c.if-recording-lt-HEADER_BYTES.true)

pub find_long_body-requires : goal.find_long_body-requires
find_long_body-requires c = (c.if-recording-lt-HEADER_BYTES.false, c.if-recording-eq-LONG_VERSION.true)

pub returns-then-recording-ne-VERSION : goal.returns-then-recording-ne-VERSION
returns-then-recording-ne-VERSION c =
    refuses _ (plain 27)
    (why.other_version c.if-recording-lt-HEADER_BYTES.false c.if-recording-ne-VERSION.true
    c.if-recording-eq-LONG_VERSION.false)

pub returns-then-recording-count_of : goal.returns-then-recording-count_of
returns-then-recording-count_of c =
    refuses _ (plain 28)
    (why.wrong_count c.if-recording-lt-HEADER_BYTES.false c.if-recording-ne-VERSION.false
    (λ is. c.if-recording-count_of.true (omega (arith, is, c.count_of.ensures))))

pub returns : goal.returns
returns c =
    let long = c.if-recording-lt-HEADER_BYTES.false in
    let same : length c.args.recording.now ≡ 3 + count_of c.args.recording.now =
    omega (arith, long, c.if-recording-count_of.false, c.count_of.ensures) in
    let short : length c.args.recording.now ≤ 0xFFFFFF =
    omega (arith, same, c.type_inv.recording 1, c.type_inv.recording 2) in
    record { fits = long; short = short; is = starts c.args.recording.now 3 (why.version_1 c.if-recording-ne-VERSION.false same) }
