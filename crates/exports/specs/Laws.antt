-- What callers may rely on: packing and unpacking undo each other, an answer's parts can be read back, and a refusal
-- leaves what was lent.
use Rattle.std.specs.Prelude.{ℕ, ◌<◌, ◌/◌, ◌%◌, ◌≡◌, ◌≢◌, true, not, ◌&&◌, List, ◌++◌, leb, ℤ, pos, length, get_or, take, drop, Option, Some}
use Rattle.isa.specs.Refusals.{done}
use Rattle.isa.specs.RoundTrip.{Bytes}
use Rattle.isa.specs.Rom.{is_image}
use Rattle.isa.specs.Encode.{in_field}
use Rattle.isa.specs.declared.Instruction.{Instruction}
use Rattle.isa.specs.declared.Instruction.TheVariants as I
use Rattle.machine.specs.declared.Machine.{Machine}
use Rattle.machine.specs.State.{is_well_formed}
use Rattle.machine.specs.Step.{step_of}
use Rattle.machine.specs.Run.{steps_of, requests_fit, run_of}
use Rattle.machine.specs.Laws.{StopNumber}
use Rattle.data.specs.declared.Origin.{Origin}
use Rattle.gauge.specs.Sleep.{size_as}
use Rattle.playback.specs.Play.{Playing, play_of}
use Rattle.exports.specs.Answers.{word, answer_word, origin_number, rom_address, origin_word, size_word, is_refused_run}
use Rattle.exports.specs.States.{valid, unpacked, packed}
use Rattle.exports.specs.Fields.{packed_instruction, unpacked_instruction}
use Rattle.exports.specs.Lent.{
  Lent,
  LentRun,
  report_bytes,
  decode_lent,
  write_lent,
  reset_lent,
  store_lent,
  step_lent,
  run_lent,
  play_lent,
  job_lent,
  MakeLent,
}

-- the program's arrays have these lengths
pub record Sized (m : Machine) : Type 0 where
  pub stack : length m.stack ≡ 6
  pub bytes : length m.bytes ≡ 256

-- packing and unpacking a machine undo each other
-- proved by packing_inverts, proofs/Inverse
pub record PackingInverts : Type 0 where
  pub unpack_pack : (m : Machine) → Sized m → unpacked (packed m) ≡ valid m
  pub pack_unpack : (s : List ℕ) → Bytes s → (m : Machine) → unpacked s ≡ valid m → packed m ≡ s

-- the displacement of a jump, 0 where there is none
abbrev pub displacement_of : Instruction → ℤ
displacement_of (I.Jrnz d) = d
displacement_of (I.Jrnc d) = d
displacement_of (I.Jrz d) = d
displacement_of (I.Jrc d) = d
displacement_of (I.Jrr bit a d) = d
displacement_of (I.Jrs bit a d) = d
displacement_of (I.Call target) = pos 0
displacement_of (I.Jp target) = pos 0
displacement_of (I.Res bit a) = pos 0
displacement_of (I.Set bit a) = pos 0
displacement_of (I.LoadA o) = pos 0
displacement_of (I.StoreA o) = pos 0
displacement_of (I.LoadAImmediate n) = pos 0
displacement_of (I.LoadImmediate a n) = pos 0
displacement_of (I.Inc o) = pos 0
displacement_of (I.Dec o) = pos 0
displacement_of (I.Add o) = pos 0
displacement_of (I.AddImmediate n) = pos 0
displacement_of (I.Sub o) = pos 0
displacement_of (I.SubImmediate n) = pos 0
displacement_of (I.And o) = pos 0
displacement_of (I.AndImmediate n) = pos 0
displacement_of (I.Cp o) = pos 0
displacement_of (I.CpImmediate n) = pos 0
displacement_of I.Com = pos 0
displacement_of I.Rlc = pos 0
displacement_of I.Ret = pos 0
displacement_of I.Reti = pos 0
displacement_of I.Stop = pos 0
displacement_of I.Wait = pos 0

-- fields are read as the one instruction whose row they are
-- proved by fields_invert, proofs/Reading
pub record FieldsInvert : Type 0 where
  pub read_row :
      (i : Instruction) → in_field 8 (displacement_of i) ≡ true → (more : List ℕ)
      → unpacked_instruction (packed_instruction i ++ more) ≡ Some i
  pub row_read : (s : List ℕ) (i : Instruction) → unpacked_instruction s ≡ Some i → take 7 s ≡ packed_instruction i

-- bits 0 to 7, 8 to 23 and from 24
-- proved by word_reads, proofs/Inverse
pub record WordReads : Type 0 where
  pub number : (n a v : ℕ) → n < 0x100 → a < 0x10000 → word n a v % 0x100 ≡ n
  pub address : (n a v : ℕ) → n < 0x100 → a < 0x10000 → word n a v / 0x100 % 0x10000 ≡ a
  pub value : (n a v : ℕ) → n < 0x100 → a < 0x10000 → word n a v / 0x1000000 ≡ v

-- bits 24 to 39 the width, bits 40 to 55 the steps
-- proved by size_reads, proofs/Inverse
pub record SizeReads : Type 0 where
  pub width : (w s : ℕ) → w < 0x10000 → size_word (done (size_as w s)) / 0x1000000 % 0x10000 ≡ w
  pub steps : (w s : ℕ) → w < 0x10000 → size_word (done (size_as w s)) / 0x10000000000 ≡ s

-- bits 24 to 31 the byte or the cycles, bits 32 to 39 the origin's number, from bit 40 the ROM address
-- proved by origin_reads, proofs/Inverse
pub record OriginReads : Type 0 where
  pub value : (v : ℕ) (r : Option Origin) → v < 0x100 → origin_word v r / 0x1000000 % 0x100 ≡ v
  pub origin : (v : ℕ) (r : Option Origin) → v < 0x100 → origin_word v r / 0x100000000 % 0x100 ≡ origin_number r
  pub address : (v : ℕ) (r : Option Origin) → v < 0x100 → origin_word v r / 0x10000000000 ≡ rom_address r

-- a run is refused exactly where one of its own refusals applies: 1, 2, 12, 11
-- proved by refused_runs, proofs/Runs
abbrev pub RefusedRuns : Type 0
RefusedRuns =
    (image : List ℕ) → Bytes image → (m : Machine) (requests : List ℕ) (n : ℕ) →
    is_refused_run (run_of image m requests n).report.ending
    ≡ not (is_image (length image) && (is_well_formed m && (leb n 65535 && requests_fit requests n)))

-- the number of an answer, 0 where nothing was refused or stopped
abbrev pub number_of : (answer : ℕ) → ℕ
number_of answer = answer % 0x100

-- "A refusal is a number, and leaves buffers and machine untouched": where the number is not 0
abbrev pub Leaves : List ℕ → Lent → Type 0
Leaves before l = number_of l.answer ≢ 0 → l.buffer ≡ before

-- "A stop in a run keeps the steps before it": state and report are those of the steps completed, and the answer is
-- that of the step after them, which stops
pub record KeepsSteps (image s requests : List ℕ) (n : ℕ) (before : List ℕ) (l : LentRun) : Type 0 where
  pub machine : Machine
  pub unpacks : unpacked s ≡ valid machine
  pub steps : ℕ
  -- "It ends early"
  pub fewer : steps < n
  pub completed : (steps_of image requests machine steps).report.ending ≡ done tt
  pub counted : (steps_of image requests machine steps).report.steps ≡ steps
  pub state : l.state ≡ packed (steps_of image requests machine steps).machine
  pub report : l.report ≡ report_bytes steps (steps_of image requests machine steps).report.cycles ++ drop 8 before
  pub stop :
      l.answer
      ≡ answer_word (step_of image (steps_of image requests machine steps).machine (get_or requests steps 0)).answer

-- a refused run, 1, 2, 12 or 11, and one without room for its report, 9, leave state and report; a stop, 4 to 7, keeps
-- the steps before it
pub record RunLeaves (image s requests : List ℕ) (n : ℕ) (before : List ℕ) (l : LentRun) : Type 0 where
  pub refused : number_of l.answer ≢ 0 → (StopNumber (number_of l.answer) → ⊥)
      → (l.state ≡ s) × (l.report ≡ before)
  pub stopped : StopNumber (number_of l.answer) → KeepsSteps image s requests n before l

-- W-206: the numbers of an entry that ends a playing, 4 to 7, 10 and 11; the playing's own and the buffers' are 1, 2, 9
-- and 27 to 30
pub data EntryNumber : (number : ℕ) → Type 0 where
  stop : (number : ℕ) → StopNumber number → EntryNumber number
  store : EntryNumber 10
  step : EntryNumber 11

-- the record was played: state and report are the machine, the entries and the cycles answered
pub record KeepsPlayed (image recording before : List ℕ) (l : LentRun) : Type 0 where
  pub playing : Playing
  pub plays : play_of image recording ≡ done playing
  pub state : l.state ≡ packed playing.machine
  pub report : l.report ≡ report_bytes playing.entries playing.cycles ++ drop 8 before

-- a record that is not played, 1 and 27 to 30, a state of another length, 2, and a short report, 9, leave state and
-- report; a whole record, 0, and one that an entry ended leave what was played
pub record PlayLeaves (image recording s before : List ℕ) (l : LentRun) : Type 0 where
  pub refused :
      number_of l.answer ≢ 0 → (EntryNumber (number_of l.answer) → ⊥) → (l.state ≡ s) × (l.report ≡ before)
  pub whole : number_of l.answer ≡ 0 → KeepsPlayed image recording before l
  pub ended : EntryNumber (number_of l.answer) → KeepsPlayed image recording before l

-- "A refusal is a number, and leaves buffers and machine untouched", of every function that is lent a buffer. A job's
-- own refusals, 20 to 22 and the check's, are lines that are written; what is refused is a buffer too short for the
-- line, with 9.
-- proved by refusals_leave, proofs/RefusalsLeave
pub record RefusalsLeave : Type 0 where
  pub by_decode : (image : List ℕ) (address bank : ℕ) (out : List ℕ) → Leaves out (decode_lent image address bank out)
  pub by_write : (fields out : List ℕ) → Leaves out (write_lent fields out)
  pub by_reset : (s : List ℕ) → Leaves s (reset_lent s)
  pub by_store : (s : List ℕ) → Bytes s → (a value : ℕ) → Leaves s (store_lent s a value)
  pub by_step : (image s : List ℕ) → Bytes s → (request : ℕ) → Leaves s (step_lent image s request)
  pub by_run :
      (image s requests report : List ℕ) → Bytes image → (n : ℕ) →
      RunLeaves image s requests n report (run_lent image s requests n report)
  pub by_play :
      (image recording s report : List ℕ) → Bytes image →
      PlayLeaves image recording s report (play_lent image recording s report)
  pub by_job : (job line : List ℕ) → Leaves line (job_lent job line)
  pub by_make :
      (image : List ℕ) (wired : ℕ) (out : List ℕ) (l : Lent) → MakeLent image wired out l → Leaves out l
