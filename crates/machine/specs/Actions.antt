-- What a step is about to do (document 01, "Modes, stack, sleep" and "Step"): it takes a request, else it sleeps, else
-- it
-- executes the instruction at PC. A step's effect, the operand that it reads and its effect on the stack go by this.
use Rattle.std.specs.Prelude.{ℕ, Bool, cond, List, get_or, length, Option, Some, None}
use Rattle.alu.specs.Alu.{bit_of}
use Rattle.isa.specs.Refusals.{Numbered, plain, numbered, Answer, done, refused, unless}
use Rattle.isa.specs.Sources.{names_only_sources}
use Rattle.isa.specs.Rom.{is_image}
use Rattle.isa.specs.Decode.{decode_at}
use Rattle.isa.specs.Decode as decode
use Rattle.isa.specs.declared.Instruction.{Instruction}
use Rattle.isa.specs.declared.Source.{Source}
use Rattle.data.specs.Space.{program_of}
use Rattle.control.specs.declared.Control.{Control}
use Rattle.control.specs.Requests.{requested_of}
use Rattle.machine.specs.declared.Machine.{Machine}
use Rattle.machine.specs.declared.Action.{Action}
use Rattle.machine.specs.declared.Action.TheVariants as action
use Rattle.machine.specs.State.{is_well_formed}

pub data StepAction : Type 0 where
  -- "Taking one [..] is a step by itself."
  takes : (source : Source) → StepAction
  -- "a sleeping step with nothing to take is idle"
  idles : StepAction
  -- the instruction at PC, of so many bytes and cycles
  executes : (i : Instruction) → (bytes cycles : ℕ) → StepAction
  -- nothing: it is refused, or "4 and 5 as in decoding"
  refuses : Numbered → StepAction

-- the program's action by document 01's numbers
abbrev pub action_as : Action → StepAction
action_as (action.Takes source) = takes source
action_as action.Idles = idles
action_as (action.Executes d) = executes d.instruction d.length d.cycles
action_as (action.Refused r) = refuses (numbered r)

-- "Bit 4 of 0C8h enables sources 1 to 4.": of the byte stored there, not of a program's read, which gives 0. "The
-- stored
-- bytes still drive the enable and the window." (document 02, W-204)
abbrev pub enabled_of : (bytes : List ℕ) → Bool
enabled_of bytes = bit_of (get_or bytes 0xC8 0) 4

abbrev pub decoded_action : Answer decode.Decoding → StepAction
decoded_action (done (decode.instruction i bytes cycles)) = executes i bytes cycles
decoded_action (refused r) = refuses r

-- asleep, or awake with what stands at PC
unfoldable pub unrequested_action : (image : List ℕ) → Control → StepAction
unrequested_action image c = cond c.asleep idles (decoded_action (decode_at image c.pc))

abbrev pub requested_action : (image : List ℕ) → Control → Option Source → StepAction
requested_action image c (Some source) = takes source
requested_action image c None = unrequested_action image c

-- with a program space, where 1, 2 and 11 do not apply
unfoldable pub due_of : (image : List ℕ) → Machine → (request : ℕ) → StepAction
due_of image m request =
    requested_action image m.control (requested_of m.control.mode (enabled_of m.bytes) request)

-- "Step: 1, 2, 11 (bit 5, 6 or 7 set in a request byte), then the stops", in program space as it stands when the step
-- begins (document 02, W-210)
unfoldable pub action_of : (image : List ℕ) → Machine → (request : ℕ) → StepAction
action_of image m request =
    unless (is_image (length image)) (refuses (plain 1))
    (unless (is_well_formed m) (refuses (plain 2))
    (unless (names_only_sources request) (refuses (plain 11))
    (due_of (program_of image m.bytes) m request)))

-- the request that an action takes, if any
abbrev pub request_in : StepAction → Option Source
request_in (takes source) = Some source
request_in idles = None
request_in (executes i bytes cycles) = None
request_in (refuses r) = None
