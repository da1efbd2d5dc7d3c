-- Requests: which one a step takes, and what taking it does (document 01, "Modes, stack, sleep").
use Rattle.std.specs.Prelude.{ℕ, Bool, true, false, cond, ◌&&◌, List, Option, Some, None}
use Rattle.isa.specs.Sources.{is_named, vector_of}
use Rattle.isa.specs.declared.Source.{Source}
use Rattle.isa.specs.declared.Source.TheVariants.{Nmi, First, Second, Third, Fourth}
use Rattle.control.specs.declared.Mode.{Mode}
use Rattle.control.specs.declared.Mode.TheVariants.{Reset, Normal, Interrupt, NmiOverNormal, NmiOverInterrupt}
use Rattle.control.specs.declared.Control.{Control}
use Rattle.control.specs.Update.{with_pc, with_mode, with_sleep}
use Rattle.control.specs.Stack.{Transferred, push_of}

-- "NMI is taken in normal and interrupt mode, the others in normal mode with their enable bit set"
abbrev pub can_take : Mode → (enabled : Bool) → Source → Bool
can_take Normal enabled Nmi = true
can_take Normal enabled First = enabled
can_take Normal enabled Second = enabled
can_take Normal enabled Third = enabled
can_take Normal enabled Fourth = enabled
can_take Interrupt enabled Nmi = true
can_take Interrupt enabled First = false
can_take Interrupt enabled Second = false
can_take Interrupt enabled Third = false
can_take Interrupt enabled Fourth = false
can_take Reset enabled source = false
can_take NmiOverNormal enabled source = false
can_take NmiOverInterrupt enabled source = false

-- the request byte asks for a source that can be taken now
abbrev pub is_taken : Mode → (enabled : Bool) → (request : ℕ) → Source → Bool
is_taken mode enabled request source = is_named request source && can_take mode enabled source

-- "the lowest number wins"
unfoldable pub requested_of : Mode → (enabled : Bool) → (request : ℕ) → Option Source
requested_of mode enabled request =
    cond (is_taken mode enabled request Nmi) (Some Nmi)
    (cond (is_taken mode enabled request First) (Some First)
    (cond (is_taken mode enabled request Second) (Some Second)
    (cond (is_taken mode enabled request Third) (Some Third)
    (cond (is_taken mode enabled request Fourth) (Some Fourth) None))))

-- the mode of NMI's service over a mode; a second NMI does not nest
abbrev pub nmi_over : Mode → Mode
nmi_over Reset = NmiOverNormal
nmi_over Normal = NmiOverNormal
nmi_over Interrupt = NmiOverInterrupt
nmi_over NmiOverNormal = NmiOverNormal
nmi_over NmiOverInterrupt = NmiOverInterrupt

abbrev pub service_mode : Source → Mode → Mode
service_mode Nmi mode = nmi_over mode
service_mode First mode = Interrupt
service_mode Second mode = Interrupt
service_mode Third mode = Interrupt
service_mode Fourth mode = Interrupt

-- control at the start of a source's service: "wakes the machine"
unfoldable pub serving_of : Control → Source → Control
serving_of c source = with_sleep (with_mode (with_pc c (vector_of source)) (service_mode source c.mode)) false

abbrev pub then_serve : Transferred → Source → Transferred
then_serve t source = record { control = serving_of t.control source; stack = t.stack; stop = t.stop }

-- "Taking one pushes PC"; "6 request taken on six levels"
unfoldable pub take_of : List ℕ → Control → Source → Transferred
take_of stack c source = then_serve (push_of stack c c.pc) source
