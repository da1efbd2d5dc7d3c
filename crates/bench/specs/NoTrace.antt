-- The service of a request leaves no trace but data (document 02, W-214). The claim is `NoTrace`; that the levels in
-- use tell the same end of a service is `LevelsTellEnd`.
use Rattle.std.specs.Prelude.{ℕ, ◌<◌, ◌≡◌, true, false, List, [], ◌∷◌, ◌++◌}
use Rattle.isa.specs.Sources.{names_only_sources}
use Rattle.isa.specs.declared.Instruction.TheVariants as I
use Rattle.isa.specs.declared.Source.{Source}
use Rattle.control.specs.declared.Mode.{Mode}
use Rattle.data.specs.Space.{program_of}
use Rattle.machine.specs.declared.Machine.{Machine}
use Rattle.machine.specs.Pairs.{pair_of}
use Rattle.machine.specs.State.{reset_of}
use Rattle.machine.specs.Refusals.{Takes, TakesNone, AtPc}
use Rattle.certificate.specs.Check.{check_of, accepted}
use Rattle.bench.specs.Calls.{Call, step, run, store, reset, leaves, leaves_all, AllAskOnly, unrolled}
use Rattle.bench.specs.Session.{return_addresses, levels_in_use}

-- "a request is taken", by a step that is not refused: in a list as in demand 3 that is with 11 alone, and no step
-- stops (`NeverStops`)
pub record TakesRequest (m : Machine) (request : ℕ) (source : Source) : Type 0 where
  pub named : names_only_sources request ≡ true
  pub takes : Takes m request source

-- a step executes a RETI in a mode: it is not refused, takes no request, is awake, and RETI stands at PC
pub record RetiIn (image : List ℕ) (mode : Mode) (m : Machine) (request : ℕ) : Type 0 where
  pub named : names_only_sources request ≡ true
  pub none_taken : TakesNone m request
  pub awake : m.control.asleep ≡ false
  pub bytes : ℕ
  pub cycles : ℕ
  pub at_pc : AtPc (program_of image m.bytes) m I.Reti bytes cycles
  pub in_mode : m.control.mode ≡ mode

-- "until the RETI that ends its service (the first one in the mode that the taking set), with no reset between": a call
-- that is neither; in a list with its runs as steps there is no run (`NoRuns`)
abbrev pub NotEnding : (image : List ℕ) → Mode → Call → Machine → Type 0
NotEnding image mode (step request) m = RetiIn image mode m request → ⊥
NotEnding image mode (run requests n) m = ⊥
NotEnding image mode (store address value) m = Unit {0}
NotEnding image mode reset m = ⊥

-- of each call, on the machine as the one before left it
abbrev pub NoneEnding : (image : List ℕ) → Mode → List Call → Machine → Type 0
NoneEnding image mode [] m = Unit {0}
NoneEnding image mode (c ∷ calls) m = NotEnding image mode c m × NoneEnding image mode calls (leaves image c m)

-- A moment within a service: any place of a list of calls, its runs as steps, where a step takes a request, and the
-- calls since, none of which ends the service or resets. The moment is after these, before what is left of the list.
pub record InService (image : List ℕ) (start : Machine) (calls : List Call) : Type 0 where
  pub before : List Call
  pub request : ℕ
  pub since : List Call
  pub left : List Call
  pub place : calls ≡ before ++ (step request ∷ (since ++ left))
  -- "from the moment a request is taken"
  pub source : Source
  pub taken : TakesRequest (leaves_all image before start) request source
  -- "until the RETI that ends its service [..], with no reset between"
  pub not_ended :
      NoneEnding image (leaves image (step request) (leaves_all image before start)).control.mode since
      (leaves image (step request) (leaves_all image before start))

module _ {image : List ℕ} {start : Machine} {calls : List Call} (s : InService image start calls) where
  -- the machine that is interrupted
  abbrev pub interrupted : Machine
  interrupted = leaves_all image s.before start

  -- as the taking leaves it, in "the mode that the taking set"
  abbrev pub after_taking : Machine
  after_taking = leaves image (step s.request) interrupted

  abbrev pub mode_set : Mode
  mode_set = after_taking.control.mode

  -- at the moment
  abbrev pub current : Machine
  current = leaves_all image s.since after_taking

  -- the next call is a step with this request byte
  pub record NextStep (request : ℕ) : Type 0 where
    pub more : List Call
    pub next : s.left ≡ step request ∷ more

  abbrev pub after_step : (request : ℕ) → Machine
  after_step request = leaves image (step request) current

  -- it executes "the RETI that ends its service": the first in that mode, since none was before it
  abbrev pub EndsService : (request : ℕ) → Type 0
  EndsService request = RetiIn image mode_set current request

-- the flag pair of a mode is the same in two machines
abbrev pub SamePair : Mode → Machine → Machine → Type 0
SamePair mode m₀ m = pair_of m.flags mode ≡ pair_of m₀.flags mode

module _ {image : List ℕ} {start : Machine} {calls : List Call} (s : InService image start calls) where
  -- "the levels beneath stay what they were": beneath the address that the taking pushed, which itself stays, are the
  -- return addresses of before the taking
  pub record Beneath : Type 0 where
    pub above : List ℕ
    pub same : return_addresses (current s) ≡ above ++ ((interrupted s).control.pc ∷ return_addresses (interrupted s))

  -- "and afterwards the machine is at the interrupted address, in the interrupted mode, with the interrupted flag pair
  -- unchanged": the pair of the mode that was interrupted. The return addresses are those of before. "It may wake from
  -- sleep, and data bytes may differ": awake it is, whether it slept before or not, and of data nothing is said.
  pub record Restored (m : Machine) : Type 0 where
    pub address : m.control.pc ≡ (interrupted s).control.pc
    pub mode : m.control.mode ≡ (interrupted s).control.mode
    pub pair : SamePair (interrupted s).control.mode (interrupted s) m
    pub levels : return_addresses m ≡ return_addresses (interrupted s)
    pub awake : m.control.asleep ≡ false

  -- at the moment, and after the RETI, if that is next
  pub record LeavesNoTrace : Type 0 where
    pub beneath : Beneath
    pub restored : (request : ℕ) → NextStep s request → EndsService s request → Restored (after_step s request)

  -- the levels in use tell the end as the modes do: till then there are more than before the taking, so the RETI after
  -- which there are as many is the first such moment; and a step after which there are as many is that RETI
  pub record LevelsTell : Type 0 where
    pub more : levels_in_use (interrupted s) < levels_in_use (current s)
    pub again :
        (request : ℕ) → NextStep s request → EndsService s request
        → levels_in_use (after_step s request) ≡ levels_in_use (interrupted s)
    pub no_other :
        (request : ℕ) → NextStep s request
        → levels_in_use (after_step s request) ≡ levels_in_use (interrupted s) → EndsService s request

-- "For an accepted image and any list of calls as in demand 3", which starts from any machine just reset: at every
-- moment of every service. "This holds for paged parts under W-210's rules as well": nothing is asked of the image but
-- that it is accepted.
-- proved by no_trace, proofs/NoTrace
abbrev pub NoTrace : Type 0
NoTrace =
    (image certificate : List ℕ) (wired number : ℕ) → check_of image certificate wired ≡ accepted number
    → (m : Machine) (calls : List Call) → AllAskOnly wired calls
    → (s : InService image (reset_of m) (unrolled calls)) → LeavesNoTrace s

-- "the RETI that ends its service" is the first moment at which the levels are again those before the taking
-- proved by levels_tell_end, proofs/NoTrace
abbrev pub LevelsTellEnd : Type 0
LevelsTellEnd =
    (image certificate : List ℕ) (wired number : ℕ) → check_of image certificate wired ≡ accepted number
    → (m : Machine) (calls : List Call) → AllAskOnly wired calls
    → (s : InService image (reset_of m) (unrolled calls)) → LevelsTell s
