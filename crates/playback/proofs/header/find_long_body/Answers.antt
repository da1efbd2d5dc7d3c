-- `header::find_long_body` meets its contract: each refusal by its case, then where the body begins.
use Prim.Native.Nat.{◌+◌, ◌≤◌}
use native.Mathlib.Omega.{arith}
use mathlib.Core.Path.{◌≡◌}
use lib.ListN.{length}
use Rattle.isa.specs.Refusals.{plain}
use Rattle.playback.specs.Record.{long_count_of}
use Rattle.playback.specs.Refusals as why
use Rattle.playback.proofs.HeaderCases.{starts, refuses}
use Rattle.playback.proofs.header.find_long_body.Goals as goal

pub returns-then-recording-lt-LONG_HEADER_BYTES : goal.returns-then-recording-lt-LONG_HEADER_BYTES
returns-then-recording-lt-LONG_HEADER_BYTES c =
    refuses _ (plain 28)
    (why.under_four (omega (arith, c.requires.0, c.if-recording-lt-LONG_HEADER_BYTES.true)) c.requires.1)

pub returns-then-recording-count : goal.returns-then-recording-count
returns-then-recording-count c =
    refuses _ (plain 28)
    (why.wrong_long_count c.if-recording-lt-LONG_HEADER_BYTES.false c.requires.1
    (λ is. c.if-recording-count.true (omega (arith, is, c.long_count_of-count.ensures))))

pub returns-then-count-lt-LEAST_LONG : goal.returns-then-count-lt-LEAST_LONG
returns-then-count-lt-LEAST_LONG c =
    let count = c.long_count_of-count.ensures in
    let same : length c.args.recording.now ≡ 4 + long_count_of c.args.recording.now =
    omega (arith, c.if-recording-lt-LONG_HEADER_BYTES.false, c.if-recording-count.false, count) in
    refuses _ (plain 28)
    (why.too_few c.requires.1 same (omega (arith, c.if-count-lt-LEAST_LONG.true, count)))

pub returns-then-count-gt-MOST_LONG : goal.returns-then-count-gt-MOST_LONG
returns-then-count-gt-MOST_LONG c =
    let count = c.long_count_of-count.ensures in
    let same : length c.args.recording.now ≡ 4 + long_count_of c.args.recording.now =
    omega (arith, c.if-recording-lt-LONG_HEADER_BYTES.false, c.if-recording-count.false, count) in
    refuses _ (plain 30)
    (why.too_many c.requires.1 same (omega (arith, c.if-count-gt-MOST_LONG.true, count)))

pub returns : goal.returns
returns c =
    let long = c.if-recording-lt-LONG_HEADER_BYTES.false in
    let count = c.long_count_of-count.ensures in
    let same : length c.args.recording.now ≡ 4 + long_count_of c.args.recording.now =
    omega (arith, long, c.if-recording-count.false, count) in
    let least : 65536 ≤ long_count_of c.args.recording.now =
    omega (arith, c.if-count-lt-LEAST_LONG.false, count) in
    let most : long_count_of c.args.recording.now ≤ 1048576 =
    omega (arith, c.if-count-gt-MOST_LONG.false, count) in
    let short : length c.args.recording.now ≤ 0xFFFFFF = omega (arith, same, most) in
    record { fits = long; short = short; is = starts c.args.recording.now 4 (why.version_2 c.requires.1 same least most) }
