-- The parts of a certificate's levels add up.
use mathlib.Core.Path.{refl}
use Rattle.certificate.specs.Levels.{levels_of}
use Rattle.reports.specs.Levels.{PartsAddUp}

pub parts_add_up : PartsAddUp
unfolding levels_of
parts_add_up certificate wired r p = rw (p.start, p.services, p.nmi) refl
