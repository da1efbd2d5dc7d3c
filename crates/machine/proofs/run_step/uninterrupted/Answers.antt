-- `run_step::uninterrupted` meets its contract.
use mathlib.Core.Path.{◌≡◌, sym, ◌∙◌}
use Rattle.isa.specs.Refusals.{numbered, done, refused}
use Rattle.isa.specs.Lengths.{length_of}
use Rattle.isa.specs.Predecoded.{instruction_of_word, cycles_of_word}
use Rattle.isa.specs.Decode.{decode_at}
use Rattle.isa.specs.Decode as decode
use Rattle.isa.proofs.AtAddress.{in_range}
use Rattle.isa.proofs.Halves.{is_space_lem}
use Rattle.data.specs.Space.{program_of}
use Rattle.machine.specs.Advance.{acted_of}
use Rattle.machine.proofs.StepByStep.{idle, awake}
use Rattle.machine.proofs.run_step.uninterrupted.Goals as goal

pub returns-then-c : goal.returns-then-c
returns-then-c c =
    (λ pairs. c.done.ensures _ _ pairs c.args.c.mode ∙ idle _ _ c.if-c.true, c.requires.3)

pub returns-in-Err : goal.returns-in-Err
unfolding acted_of
returns-in-Err c =
    let program = program_of c.args.image.now c.args.bytes.now in
    let decoded : decode_at program c.args.c.pc ≡ refused (numbered c.in-Err.reason) =
    sym (rw (c.in-Err.is, c.requires.4) at c.fetch.ensures.0
    ∙ in_range program _ (is_space_lem c.args.image.now _ c.requires.0) c.requires.1) in (
      λ pairs. rw decoded (c.stopped.ensures _ _ pairs c.args.c.mode) ∙ awake program _
          c.if-c.false,
      c.fetch.ensures.1,
    )

pub returns-in-Ok : goal.returns-in-Ok
unfolding acted_of
returns-in-Ok c =
    let program = program_of c.args.image.now c.args.bytes.now in
    let w = c.in-Ok.word in
    let decoded : decode_at program c.args.c.pc
    ≡ done (decode.instruction (instruction_of_word w) (length_of (instruction_of_word w)) (cycles_of_word w)) =
    sym (rw (c.in-Ok.is, c.requires.4) at c.fetch.ensures.0
    ∙ in_range program _ (is_space_lem c.args.image.now _ c.requires.0) c.requires.1) in (
      λ pairs. rw decoded (c.executed.ensures pairs) ∙ awake program _ c.if-c.false,
      c.fetch.ensures.1,
    )
