-- Which request's service a step ends, told by the modes before and after it (document 02, W-214): what a trace says of
-- a RETI. The claim is `EndTold`.
use Rattle.std.specs.Prelude.{ℕ, ◌≡◌, cond, List, [], ◌∷◌, ◌++◌, ltb, Option, Some, None}
use Rattle.isa.specs.Sources.{names_only_sources}
use Rattle.isa.specs.declared.Source.{Source}
use Rattle.isa.specs.declared.Source.TheVariants.{Nmi, First, Second, Third, Fourth}
use Rattle.control.specs.declared.Mode.{Mode}
use Rattle.control.specs.declared.Mode.TheVariants.{Reset, Normal, Interrupt, NmiOverNormal, NmiOverInterrupt}
use Rattle.control.specs.Requests.{requested_of}
use Rattle.machine.specs.declared.Machine.{Machine}
use Rattle.machine.specs.State.{reset_of}
use Rattle.machine.specs.Step.{enabled_of}
use Rattle.certificate.specs.Check.{check_of, accepted}
use Rattle.bench.specs.Calls.{Call, step, run, store, reset, leaves, leaves_all, AllAskOnly, unrolled}
use Rattle.bench.specs.NoTrace.{RetiIn, InService, current, NextStep, after_step, EndsService}

-- how many services a mode is in: "NMI is taken in normal and interrupt mode, the others in normal mode"
abbrev pub open_services : Mode → ℕ
open_services Reset = 0
open_services Normal = 0
open_services Interrupt = 1
open_services NmiOverNormal = 1
open_services NmiOverInterrupt = 2

-- of the sources 1 to 4 the one taken last, where a step takes a request or none
abbrev pub latest_of : (latest : Source) → Option Source → Source
latest_of latest None = latest
latest_of latest (Some Nmi) = latest
latest_of latest (Some First) = First
latest_of latest (Some Second) = Second
latest_of latest (Some Third) = Third
latest_of latest (Some Fourth) = Fourth

-- the request that a mode serves: in interrupt mode it is that of the source taken last
abbrev pub served_in : Mode → (latest : Source) → Option Source
served_in Reset latest = None
served_in Normal latest = None
served_in Interrupt latest = Some latest
served_in NmiOverNormal latest = Some Nmi
served_in NmiOverInterrupt latest = Some Nmi

-- the request whose service a step ends: that of the mode before it, where it leaves fewer services open
unfoldable pub ended_of : (before after : Mode) → (latest : Source) → Option Source
ended_of before after latest = cond (ltb (open_services after) (open_services before)) (served_in before latest) None

-- the source taken last, after a call; a step with one of bits 5 to 7 set is refused and takes none, and in a list with
-- its runs as steps there is no run
abbrev pub latest_after : Call → Machine → (latest : Source) → Source
latest_after (step request) m latest =
    cond (names_only_sources request)
    (latest_of latest (requested_of m.control.mode (enabled_of m.bytes) request)) latest
latest_after (run requests n) m latest = latest
latest_after (store address value) m latest = latest
latest_after reset m latest = latest

-- after a list of calls, each of which "gets the machine as the one before left it"
abbrev pub latest_after_all : (image : List ℕ) → List Call → Machine → (latest : Source) → Source
latest_after_all image [] m latest = latest
latest_after_all image (c ∷ calls) m latest = latest_after_all image calls (leaves image c m) (latest_after c m latest)

-- Of an accepted image and a list of calls as in demand 3, whatever source the list is begun with.
-- proved by end_told, proofs/ServiceEnds
pub record EndTold : Type 0 where
  -- of "the RETI that ends its service" the request of that service is told
  pub named :
      (image certificate : List ℕ) (wired number : ℕ) → check_of image certificate wired ≡ accepted number
      → (m : Machine) (calls : List Call) → AllAskOnly wired calls
      → (s : InService image (reset_of m) (unrolled calls)) (request : ℕ) → NextStep s request → EndsService s request
      → (begun : Source)
      → ended_of (current s).control.mode (after_step s request).control.mode
      (latest_after_all image (s.before ++ (step s.request ∷ s.since)) (reset_of m) begun)
      ≡ Some s.source
  -- and a step of which a request is told executes a RETI
  pub only :
      (image certificate : List ℕ) (wired number : ℕ) → check_of image certificate wired ≡ accepted number
      → (m : Machine) (calls : List Call) → AllAskOnly wired calls
      → (before more : List Call) (request : ℕ) → unrolled calls ≡ before ++ (step request ∷ more)
      → (latest source : Source)
      → ended_of (leaves_all image before (reset_of m)).control.mode
      (leaves image (step request) (leaves_all image before (reset_of m))).control.mode latest
      ≡ Some source
      → RetiIn image (leaves_all image before (reset_of m)).control.mode (leaves_all image before (reset_of m)) request
