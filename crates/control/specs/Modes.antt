-- Modes (document 01, "Modes, stack, sleep").
use Rattle.std.specs.Prelude.{ℕ, ◌≡◌, ◌<◌, Bool, true, false, Result, MatchResult}
use Rattle.control.specs.declared.Mode.{Mode}
use Rattle.control.specs.declared.Mode.TheVariants.{Reset, Normal, Interrupt, NmiOverNormal, NmiOverInterrupt}
use Rattle.control.specs.declared.modes.UnknownMode.{UnknownMode}

-- "RETI [..] returns to the mode beneath (normal from normal, interrupt and reset)"
abbrev pub mode_beneath : Mode → Mode
mode_beneath Reset = Normal
mode_beneath Normal = Normal
mode_beneath Interrupt = Normal
mode_beneath NmiOverNormal = Normal
mode_beneath NmiOverInterrupt = Interrupt

abbrev pub is_reset : Mode → Bool
is_reset Reset = true
is_reset Normal = false
is_reset Interrupt = false
is_reset NmiOverNormal = false
is_reset NmiOverInterrupt = false

-- a mode as a number, by which two are compared, and in a machine's state
abbrev pub mode_number : Mode → ℕ
mode_number Reset = 0
mode_number Normal = 1
mode_number Interrupt = 2
mode_number NmiOverNormal = 3
mode_number NmiOverInterrupt = 4

-- the mode with this number, or the number back where no mode has it
abbrev pub ModeOf : ℕ → Result Mode UnknownMode → Type 0
ModeOf number r = MatchResult r (λ mode. mode_number mode ≡ number) (λ e. (e.0 ≡ number) × (4 < number))
