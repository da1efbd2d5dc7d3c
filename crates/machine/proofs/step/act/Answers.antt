use mathlib.Core.Path.{◌≡◌, sym, ap, ◌∙◌}
use Rattle.isa.specs.Refusals.{numbered}
use Rattle.data.specs.Space.{program_of}
use Rattle.machine.specs.declared.FlagPairs.{FlagPairs}
use Rattle.machine.specs.Pairs.{with_pair_of}
use Rattle.machine.specs.State.{machine_of}
use Rattle.machine.specs.Advance.{done_of, refused_of, taken_of, executed_of, acted_of}
use Rattle.machine.proofs.PairTests.{put_back}
use Rattle.machine.proofs.step.act.Goals as goal

pub returns-in-Takes : goal.returns-in-Takes
unfolding acted_of
returns-in-Takes c =
    let a = c.args in
    let own : with_pair_of a.pairs a.c.mode c.pair-flags.result ≡ a.pairs =
    rw c.pair-flags.ensures (put_back a.pairs a.c.mode) in (
      rw c.in-Takes.is
          (c.ended.ensures.0 _ _ ∙ c.taken-after.ensures _ a.pairs
          ∙ ap (λ (p : FlagPairs). taken_of (machine_of a.c a.stack.now p a.bytes.now) c.in-Takes.source) own),
      rw c.in-Takes.is c.ended.ensures.1,
      c.ended.ensures.2 ∙ sym c.in-Takes.is,
    )

pub returns-in-Idles : goal.returns-in-Idles
unfolding acted_of
returns-in-Idles c =
    let a = c.args in
    let is = c.in-Idles.is in
    let own : with_pair_of a.pairs a.c.mode c.pair-flags.result ≡ a.pairs =
    rw c.pair-flags.ensures (put_back a.pairs a.c.mode) in (
      rw is
          (c.ended-in-Idles.ensures.0 _ _ ∙ c.done-after.ensures _ _ a.pairs a.c.mode
          ∙ ap (λ (p : FlagPairs). done_of (machine_of a.c a.stack.now p a.bytes.now) 0) own),
      rw is c.ended-in-Idles.ensures.1,
      c.ended-in-Idles.ensures.2,
    )

pub returns-in-Executes : goal.returns-in-Executes
unfolding acted_of
returns-in-Executes c =
    let a = c.args in
    let program = program_of a.image.now a.bytes.now in
    let own : with_pair_of a.pairs a.c.mode c.pair-flags.result ≡ a.pairs =
    rw c.pair-flags.ensures (put_back a.pairs a.c.mode) in (
      rw c.in-Executes.is
          (c.ended-in-Executes.ensures.0 _ _ ∙ c.executed-after.ensures a.pairs
          ∙ ap (λ (p : FlagPairs). executed_of program (machine_of a.c a.stack.now p a.bytes.now) c.in-Executes.decoded.instruction
          c.in-Executes.decoded.length c.in-Executes.decoded.cycles) own),
      rw (c.in-Executes.is, ← c.origin_read-read.ensures c.requires) c.ended-in-Executes.ensures.1,
      c.ended-in-Executes.ensures.2 ∙ sym c.in-Executes.is,
    )

pub returns-in-Refused : goal.returns-in-Refused
unfolding acted_of
returns-in-Refused c =
    let a = c.args in
    let own : with_pair_of a.pairs a.c.mode c.pair-flags.result ≡ a.pairs =
    rw c.pair-flags.ensures (put_back a.pairs a.c.mode) in (
      rw c.in-Refused.is
          (c.ended-in-Refused.ensures.0 _ _ ∙ c.stopped-after.ensures _ _ a.pairs a.c.mode
          ∙ ap (λ (p : FlagPairs). refused_of (machine_of a.c a.stack.now p a.bytes.now)
          (numbered c.in-Refused.reason)) own),
      rw c.in-Refused.is c.ended-in-Refused.ensures.1,
      c.ended-in-Refused.ensures.2 ∙ sym c.in-Refused.is,
    )
