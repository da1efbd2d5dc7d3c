-- What each exported function answers, and what it leaves in the buffers that it is lent.
use Rattle.std.specs.Prelude.{ℕ, ◌/◌, ◌%◌, ◌≡◌, cond, ◌&&◌, List, [], ◌∷◌, ◌++◌, length, drop, leb, eqb, Option, Some, None}
use Rattle.isa.specs.Refusals.{plain, Answer, done, refused, unless}
use Rattle.isa.specs.Decode.{decode_in}
use Rattle.isa.specs.Decode as decode
use Rattle.isa.specs.Write.{outcome, buffer_after}
use Rattle.isa.specs.Encode.{encode_of}
use Rattle.data.specs.declared.Origin.{Origin}
use Rattle.machine.specs.State.{HostStore, reset_of, host_store_of}
use Rattle.machine.specs.Step.{Step, step_of}
use Rattle.machine.specs.Run.{Run, run_of}
use Rattle.machine.specs.Reading.{reading_of}
use Rattle.machine.specs.Operands.{step_read_of}
use Rattle.maker.specs.Make.{Makes}
use Rattle.playback.specs.Play.{Playing, play_of}
use Rattle.jobs.specs.CheckJob.{job_of}
use Rattle.jobs.specs.Line.{line_of}
use Rattle.text_line.specs.Line.{fits}
use Rattle.exports.specs.Answers.{word, refusal_word, invalid_word, answer_word, step_word, reading_word}
use Rattle.exports.specs.Answers.{ended_word, is_refused_run}
use Rattle.exports.specs.States.{Unpacked, valid, invalid, unpacked, packed}
use Rattle.exports.specs.Fields.{decoded_row, unpacked_instruction}
use Rattle.isa.specs.declared.Instruction.{Instruction}

-- an answer, and the buffer after it
pub record Lent : Type 0 where
  pub answer : ℕ
  pub buffer : List ℕ

abbrev pub lent : (answer : ℕ) → (buffer : List ℕ) → Lent
lent answer buffer = record { answer = answer; buffer = buffer }

-- an invalid state is refused with 2
abbrev pub reset_by : List ℕ → Unpacked → Lent
reset_by s (valid m) = lent (word 0 0 0) (packed (reset_of m))
reset_by s invalid = lent (refusal_word (plain 2)) s

unfoldable pub reset_lent : List ℕ → Lent
reset_lent s = reset_by s (unpacked s)

abbrev pub stored_lent : HostStore → Lent
stored_lent r = lent (ended_word r.ending) (packed r.machine)

abbrev pub store_by : List ℕ → (a value : ℕ) → Unpacked → Lent
store_by s a value (valid m) = stored_lent (host_store_of m a value)
store_by s a value invalid = lent (refusal_word (plain 2)) s

-- an address or a value beyond its byte is refused with 8, first
unfoldable pub store_lent : List ℕ → (a value : ℕ) → Lent
store_lent s a value =
    cond (leb a 255 && leb value 255) (store_by s a value (unpacked s)) (lent (refusal_word (plain 8)) s)

abbrev pub stepped_lent : Step → Option Origin → Lent
stepped_lent r read = lent (step_word r.answer read) (packed r.machine)

abbrev pub step_by : (image s : List ℕ) → (request : ℕ) → Unpacked → Lent
step_by image s request (valid m) = stepped_lent (step_of image m request) (step_read_of image m request)
step_by image s request invalid = lent (invalid_word image) s

unfoldable pub step_lent : (image s : List ℕ) → (request : ℕ) → Lent
step_lent image s request = step_by image s request (unpacked s)

-- W-203: a reading is lent the state only to look at; an invalid one is refused with 2, after 1
abbrev pub read_by : (image : List ℕ) → (a : ℕ) → Unpacked → ℕ
read_by image a (valid m) = reading_word (reading_of image m a)
read_by image a invalid = invalid_word image

-- an address beyond its byte is refused with 8, first
unfoldable pub read_word : (image s : List ℕ) → (a : ℕ) → ℕ
read_word image s a = cond (leb a 255) (read_by image a (unpacked s)) (refusal_word (plain 8))

-- the answer of a run or a playing, and state and report after it
pub record LentRun : Type 0 where
  pub answer : ℕ
  pub state : List ℕ
  pub report : List ℕ

abbrev pub lent_run : (answer : ℕ) → (state report : List ℕ) → LentRun
lent_run answer state report = record { answer = answer; state = state; report = report }

-- steps, or entries, and cycles, four bytes each, low byte first
unfoldable pub report_bytes : (steps cycles : ℕ) → List ℕ
report_bytes steps cycles =
    steps / 1 % 256 ∷ steps / 0x100 % 256 ∷ steps / 0x10000 % 256 ∷ steps / 0x1000000 % 256
    ∷ cycles / 1 % 256 ∷ cycles / 0x100 % 256 ∷ cycles / 0x10000 % 256 ∷ cycles / 0x1000000 % 256 ∷ []

-- a refused run leaves both buffers, and so does one without room for its report: 9
unfoldable pub ran_lent : (s report : List ℕ) → Run → LentRun
ran_lent s report r =
    cond (is_refused_run r.report.ending) (lent_run (ended_word r.report.ending) s report)
    (cond (leb 8 (length report))
    (lent_run (ended_word r.report.ending) (packed r.machine)
    (report_bytes r.report.steps r.report.cycles ++ drop 8 report))
    (lent_run (refusal_word (plain 9)) s report))

abbrev pub run_by : (image s requests : List ℕ) → (n : ℕ) → (report : List ℕ) → Unpacked → LentRun
run_by image s requests n report (valid m) = ran_lent s report (run_of image m requests n)
run_by image s requests n report invalid = lent_run (invalid_word image) s report

unfoldable pub run_lent : (image s requests : List ℕ) → (n : ℕ) → (report : List ℕ) → LentRun
run_lent image s requests n report = run_by image s requests n report (unpacked s)

-- W-206: the playing's own refusals come first and leave both buffers, and so do 2 for a state of another length and 9
-- for a short report; else state and report are the machine, the entries and the cycles answered, with the word of the
-- entry that ended the playing
unfoldable pub played_lent : (s report : List ℕ) → Answer Playing → LentRun
played_lent s report (done p) =
    unless (eqb (length s) 280) (lent_run (refusal_word (plain 2)) s report)
    (unless (leb 8 (length report)) (lent_run (refusal_word (plain 9)) s report)
    (lent_run (ended_word p.ending) (packed p.machine)
    (report_bytes p.entries p.cycles ++ drop 8 report)))
played_lent s report (refused n) = lent_run (refusal_word n) s report

unfoldable pub play_lent : (image recording s report : List ℕ) → LentRun
play_lent image recording s report = played_lent s report (play_of image recording)

-- decoding's own refusals come first, then 9
unfoldable pub decoded_lent : List ℕ → Answer decode.Decoding → Lent
decoded_lent out (done (decode.instruction i bytes cycles)) =
    cond (leb 10 (length out)) (lent (word 0 0 bytes) (decoded_row i bytes cycles ++ drop 10 out))
    (lent (refusal_word (plain 9)) out)
decoded_lent out (refused r) = lent (refusal_word r) out

-- a bank beyond its byte is refused with 8, first
unfoldable pub decode_lent : (image : List ℕ) → (address bank : ℕ) → (out : List ℕ) → Lent
decode_lent image address bank out =
    cond (leb bank 255) (decoded_lent out (decode_in image bank address)) (lent (refusal_word (plain 8)) out)

-- fields that are no instruction's are refused with 8
abbrev pub write_by : List ℕ → Option Instruction → Lent
write_by out (Some i) = lent (answer_word (outcome (encode_of i) (length out))) (buffer_after (encode_of i) out)
write_by out None = lent (refusal_word (plain 8)) out

unfoldable pub write_lent : (fields out : List ℕ) → Lent
write_lent fields out = write_by out (unpacked_instruction fields)

-- a job's line, written from the buffer's first byte, with its length; 9 where the buffer is too short for it
abbrev pub line_lent : (line buffer : List ℕ) → Lent
line_lent line buffer =
    cond (fits line buffer) (lent (word 0 0 (length line)) (line ++ drop (length line) buffer))
    (lent (refusal_word (plain 9)) buffer)

unfoldable pub job_lent : (job buffer : List ℕ) → Lent
job_lent job buffer = line_lent (line_of (job_of job)) buffer

-- W-202: the maker's answer, with what the buffer then holds. There is one (the maker's `OneAnswer`)
pub record MakeLent (image : List ℕ) (wired : ℕ) (out : List ℕ) (l : Lent) : Type 0 where
  pub made : Answer ℕ
  pub makes : Makes image wired out l.buffer made
  pub answer_is : l.answer ≡ answer_word made
