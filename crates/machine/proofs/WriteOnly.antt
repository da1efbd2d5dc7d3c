-- 0C8h and 0C9h read 0, and what is stored there drives the enable and the window.
use Prim.Native.Nat.{ℕ}
use mathlib.Core.Path.{◌≡◌, refl, sym, ap, ◌∙◌}
use mathlib.Core.Logic.{◌≢◌}
use mathlib.Core.Bool.{true}
use mathlib.Core.List.{List}
use native.Mathlib.Omega.{arith}
use lib.ListN.{get_or, set}
use lib.Seq.{get_or-set_other}
use Rattle.alu.specs.Alu.{weight_of}
use Rattle.isa.specs.Displacement.{forward_of}
use Rattle.isa.specs.declared.Operand.{Operand}
use Rattle.isa.specs.declared.Operand.TheVariants.{Direct, Short, ThroughX, ThroughY}
use Rattle.isa.specs.declared.Instruction.{Instruction}
use Rattle.isa.specs.declared.Instruction.TheVariants as I
use Rattle.data.specs.Space.{is_write_only, store_of, address_of, operand_of}
use Rattle.data.specs.Effect.{Data, store_result_of, effect_of}
use Rattle.data.proofs.WriteOnly.{of_both, reads_zero, reads_held, reads_window, is_register, stores_there}
use Rattle.data.specs.Space.{program_of}
use Rattle.machine.specs.declared.Machine.{Machine}
use Rattle.machine.specs.Execute.{execute_of}
use Rattle.machine.specs.State.{view_of, with_byte}
use Rattle.machine.specs.Advance.{Step, completed_of, executed_of, advanced_of}
use Rattle.machine.specs.Step.{due_of, step_of}
use Rattle.machine.specs.Reading.{reading_of}
use Rattle.machine.specs.Laws.{execution_at}
use Rattle.machine.specs.OriginTold.{Executes, AgreeOn}
use Rattle.machine.specs.WriteOnly.{
  WriteOnly,
  FromZero,
  set_bit,
  reset_bit,
  increment,
  decrement,
  StoresFromZero,
}
use Rattle.machine.proofs.StepByStep as steps
use Rattle.machine.proofs.ReadForms.{MadeOf, is_set, is_res, is_inc, is_dec, made_of}
use Rattle.machine.proofs.OriginTold.{comes, origin_told}

-- what is stored at either changes neither A nor a pointer
module _ (bytes : List ℕ) (a value : ℕ) (w : is_write_only a ≡ true) where
  other : (k : ℕ) → k ≢ 0xC8 → k ≢ 0xC9 → get_or (store_of bytes a value) k 0 ≡ get_or bytes k 0
  other k option window =
      of_both (λ (x : ℕ). get_or (store_of bytes x value) k 0 ≡ get_or bytes k 0)
      (rw (stores_there bytes value 0xC8 refl) (get_or-set_other bytes 0xC8 k value 0 option))
      (rw (stores_there bytes value 0xC9 refl) (get_or-set_other bytes 0xC9 k value 0 window))
      a w

  same_address : (o : Operand) → address_of bytes o ≡ address_of (store_of bytes a value) o
  unfolding address_of
  same_address (Direct at) = refl
  same_address (Short n) = refl
  same_address ThroughX = sym (other 0x80 (λ e. omega arith) (λ e. omega arith))
  same_address ThroughY = sym (other 0x81 (λ e. omega arith) (λ e. omega arith))

-- with another byte there, all that an instruction uses is the same
agree :
    (image : List ℕ) (m : Machine) (i : Instruction) (o : Operand) (a value : ℕ) → is_write_only a ≡ true →
    address_of m.bytes o ≡ a → AgreeOn image m image (with_byte m a value) i o
agree image m i o a value w e =
    let same = same_address m.bytes a value w o in
    record {
      control = refl;
      stack = refl;
      flags = refl;
      accumulator = λ uses. sym (other m.bytes a value w 0xFF (λ e. omega arith) (λ e. omega arith));
      address = same;
      byte =
          rw (← same, e) (reads_zero (program_of image m.bytes) m.bytes a w
          ∙ sym (reads_zero (program_of image (store_of m.bytes a value)) (store_of m.bytes a value) a w));
    }

pub write_only : WriteOnly
unfolding operand_of reading_of advanced_of due_of
write_only = record {
  reads = λ image m a e. reads_zero image m.bytes a e;
  operands = λ image m o e. reads_zero image m.bytes _ e;
  unseen = λ image m request i bytes cycles o value reads w at at'.
      origin_told.used image m image _ request request i bytes cycles o at at' reads (agree image m i o _ value w refl);
  reading = λ image m a e i w. rw (i, w, reads_zero (program_of image m.bytes) m.bytes a e, is_register (program_of image m.bytes) m.bytes a e);
  others = λ image m a e. reads_held image m.bytes a e;
  stores = λ m a value e. stores_there m.bytes value a e;
  enable = λ image m request i w n. steps.step_advances image m request i w n;
  window = λ image m a low high. reads_window image m.bytes a low high;
}

-- data space after an instruction is that of its effect
space_after :
    (image : List ℕ) (m : Machine) (i : Instruction) (bytes : ℕ) →
    (execution_at image m i bytes).space ≡ effect_of image (view_of m) i
unfolding execute_of
space_after image m i bytes = refl

-- the bytes after an instruction that reads are those of its effect
bytes_after :
    {i : Instruction} {o : Operand} → MadeOf i o → (image : List ℕ) (m : Machine) (request bytes cycles : ℕ) →
    Executes image m request i bytes cycles →
    (step_of image m request).machine.bytes ≡ (effect_of (program_of image m.bytes) (view_of m) i).bytes
unfolding executed_of completed_of
bytes_after {i} {o} made image m request bytes cycles at =
    let executed : (step_of image m request).machine.bytes ≡ (execution_at (program_of image m.bytes) m i bytes).space.bytes =
    ap (λ (s : Step). s.machine.bytes) (comes image m request i bytes cycles at)
    ∙ rw (made.goes (program_of image m.bytes) (view_of m) m.stack m.control (forward_of m.control.pc bytes)) in
    executed ∙ ap (λ (d : Data). d.bytes) (space_after (program_of image m.bytes) m i bytes)

modified :
    (image : List ℕ) (m : Machine) (request : ℕ) (i : Instruction) (bytes cycles a value : ℕ) →
    Executes image m request i bytes cycles → is_write_only a ≡ true → FromZero m.bytes a i value →
    (step_of image m request).machine.bytes ≡ set m.bytes a value
unfolding effect_of store_result_of
modified image m request _ bytes cycles a _ at w (set_bit n) =
    bytes_after (made_of _ _ (is_set n a)) image m request bytes cycles at
    ∙ rw (reads_zero (program_of image m.bytes) m.bytes a w) (stores_there m.bytes (weight_of n) a w)
modified image m request _ bytes cycles a _ at w (reset_bit n) =
    bytes_after (made_of _ _ (is_res n a)) image m request bytes cycles at
    ∙ rw (reads_zero (program_of image m.bytes) m.bytes a w) (stores_there m.bytes 0 a w)
modified image m request _ bytes cycles a _ at w (increment o e) =
    bytes_after (made_of _ _ (is_inc o)) image m request bytes cycles at
    ∙ rw (e, reads_zero (program_of image m.bytes) m.bytes a w) (stores_there m.bytes 1 a w)
modified image m request _ bytes cycles a _ at w (decrement o e) =
    bytes_after (made_of _ _ (is_dec o)) image m request bytes cycles at
    ∙ rw (e, reads_zero (program_of image m.bytes) m.bytes a w) (stores_there m.bytes 0xFF a w)

pub stores_from_zero : StoresFromZero
stores_from_zero = record {
  example = λ image m request bytes cycles at.
      modified image m request (I.Set 4 0xC8) bytes cycles 0xC8 0x10 at refl (set_bit 4);
  kin = modified;
}
