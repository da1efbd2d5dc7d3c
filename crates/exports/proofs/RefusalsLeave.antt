-- An answer whose number is not 0 leaves the lent buffer.
use Prim.Native.Nat.{ℕ, ◌%◌}
use mathlib.Core.Path.{◌≡◌, refl}
use mathlib.Core.Bool.{Bool, true, false, cond, not, ◌&&◌}
use mathlib.Core.List.{List}
use native.Mathlib.Omega.{arith}
use lib.Dec.{leb}
use lib.ListN.{length}
use Rattle.isa.specs.Refusals.{plain, Answer, done, refused, unless}
use Rattle.isa.specs.RoundTrip.{Bytes}
use Rattle.isa.specs.Decode.{decode_in}
use Rattle.isa.specs.Decode as decode
use Rattle.isa.specs.Write.{outcome, buffer_after}
use Rattle.isa.specs.Encode.{encode_of}
use Rattle.isa.specs.declared.Encoded.{Encoded}
use Rattle.isa.specs.declared.Instruction.{Instruction}
use Rattle.isa.proofs.WriteEffects.{write_effects}
use Rattle.machine.specs.declared.Machine.{Machine}
use Rattle.data.specs.Space.{in_window}
use Rattle.machine.specs.State.{is_well_formed, host_stored, with_byte, host_store_of}
use Rattle.machine.specs.Step.{step_of}
use Rattle.machine.specs.Operands.{step_read_of}
use Rattle.maker.specs.Make.{Makes}
use Rattle.jobs.specs.CheckJob.{job_of}
use Rattle.jobs.specs.Line.{line_of}
use Rattle.text_line.specs.Line.{fits}
use Rattle.std.specs.Prelude.{Option, Some, None}
use Rattle.exports.specs.Answers.{word, refusal_word, answer_word, step_word}
use Rattle.exports.specs.States.{Unpacked, valid, invalid, unpacked, packed}
use Rattle.exports.specs.Fields.{unpacked_instruction}
use Rattle.exports.specs.Lent.{lent, decoded_lent, decode_lent, write_by, write_lent, reset_by, reset_lent, stored_lent}
use Rattle.exports.specs.Lent.{store_by, store_lent, step_by, step_lent, job_lent}
use Rattle.exports.specs.Laws.{Leaves, RefusalsLeave}
use Rattle.exports.proofs.Inverse.{packing_inverts}
use Rattle.exports.proofs.Runs.{step_keeps, run_leaves}
use Rattle.exports.proofs.Plays.{play_leaves}

-- what is done has no number
done_number : (v : ℕ) → word 0 0 v % 0x100 ≡ 0
done_number v = omega arith

module _ (out : List ℕ) where
  made : (image : List ℕ) (wired : ℕ) (after : List ℕ) (answer : ℕ) (a : Answer ℕ) → answer ≡ answer_word a
      → Makes image wired out after a → Leaves out (lent answer after)
  made image wired after answer (done levels) e m k = absurd (k (rw e (done_number levels)))
  made image wired after answer (refused r) e m k = m.1

  with_room : (b : Bool) (n : ℕ) (after : List ℕ)
      → Leaves out (cond b (lent (word 0 0 n) after) (lent (refusal_word (plain 9)) out))
  with_room true n after k = absurd (k (done_number n))
  with_room false n after k = refl

  decoded : (a : Answer decode.Decoding) → Leaves out (decoded_lent out a)
  unfolding decoded_lent
  decoded (done (decode.instruction i bytes cycles)) k = with_room (leb 10 (length out)) bytes _ k
  decoded (refused r) k = refl

  written : (e : Option Encoded) (o : Answer ℕ) → outcome e (length out) ≡ o
      → Leaves out (lent (answer_word o) (buffer_after e out))
  written e (done n) is k = absurd (k (done_number n))
  written e (refused r) is k = write_effects.untouched e out r is

  read : (r : Option Instruction) → Leaves out (write_by out r)
  read (Some i) k = written (encode_of i) (outcome (encode_of i) (length out)) refl k
  read None k = refl

module _ (s : List ℕ) (bytes : Bytes s) where
  again : (m : Machine) → unpacked s ≡ valid m → packed m ≡ s
  again = packing_inverts.pack_unpack s bytes

  stepped :
      (image : List ℕ) (m : Machine) (request : ℕ) → unpacked s ≡ valid m → (a : Answer ℕ)
      → (step_of image m request).answer ≡ a →
      Leaves s (lent (step_word a (step_read_of image m request)) (packed (step_of image m request).machine))
  stepped image m request u (done cycles) e k = absurd (k (done_number _))
  stepped image m request u (refused r) e k =
      rw (step_keeps image m request r e) (again m u)

  by_state : (image : List ℕ) (request : ℕ) (u : Unpacked) → unpacked s ≡ u → Leaves s (step_by image s request u)
  by_state image request (valid m) e k = stepped image m request e (step_of image m request).answer refl k
  by_state image request invalid e k = refl

  tests :
      (m : Machine) (a value : ℕ) → unpacked s ≡ valid m → (formed outside : Bool) →
      Leaves s
      (stored_lent
      (unless formed (host_stored m (refused (plain 2)))
      (unless outside (host_stored m (refused (plain 10))) (host_stored (with_byte m a value) (done tt)))))
  tests m a value e false outside k = again m e
  tests m a value e true false k = again m e
  tests m a value e true true k = absurd (k refl)

  stored : (a value : ℕ) (u : Unpacked) → unpacked s ≡ u → Leaves s (store_by s a value u)
  unfolding host_store_of
  stored a value (valid m) e k = tests m a value e (is_well_formed m) (not (in_window a)) k
  stored a value invalid e k = refl

  in_range : (a value : ℕ) (b : Bool)
      → Leaves s (cond b (store_by s a value (unpacked s)) (lent (refusal_word (plain 8)) s))
  in_range a value true k = stored a value (unpacked s) refl k
  in_range a value false k = refl

reset : (s : List ℕ) (u : Unpacked) → Leaves s (reset_by s u)
reset s (valid m) k = absurd (k refl)
reset s invalid k = refl

-- a bank beyond its byte leaves all
with_bank : (b : Bool) (image : List ℕ) (address bank : ℕ) (out : List ℕ)
    → Leaves out (cond b (decoded_lent out (decode_in image bank address)) (lent (refusal_word (plain 8)) out))
with_bank true image address bank out = decoded out (decode_in image bank address)
with_bank false image address bank out = λ k. refl

pub refusals_leave : RefusalsLeave
unfolding decode_lent write_lent reset_lent store_lent step_lent job_lent
refusals_leave = record {
  by_decode = λ image address bank out. with_bank (leb bank 255) image address bank out;
  by_write = λ fields out. read out (unpacked_instruction fields);
  by_reset = λ s. reset s (unpacked s);
  by_store = λ s bytes a value. in_range s bytes a value (leb a 255 && leb value 255);
  by_step = λ image s bytes request. by_state s bytes image request (unpacked s) refl;
  by_run = run_leaves;
  by_play = play_leaves;
  by_job = λ job line. with_room line (fits (line_of (job_of job)) line) (length (line_of (job_of job))) _;
  by_make = λ image wired out l m. made out image wired l.buffer l.answer m.made m.answer_is m.makes;
}
