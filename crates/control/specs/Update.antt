-- Control with one part changed. Nothing else in this crate names all its fields.
use Rattle.std.specs.Prelude.{ℕ, Bool}
use Rattle.control.specs.declared.Mode.{Mode}
use Rattle.control.specs.declared.Control.{Control}

abbrev pub with_pc : Control → ℕ → Control
with_pc c pc = record { pc = pc; levels = c.levels; mode = c.mode; asleep = c.asleep }

abbrev pub with_levels : Control → ℕ → Control
with_levels c levels = record { pc = c.pc; levels = levels; mode = c.mode; asleep = c.asleep }

abbrev pub with_mode : Control → Mode → Control
with_mode c mode = record { pc = c.pc; levels = c.levels; mode = mode; asleep = c.asleep }

abbrev pub with_sleep : Control → Bool → Control
with_sleep c asleep = record { pc = c.pc; levels = c.levels; mode = c.mode; asleep = asleep }
