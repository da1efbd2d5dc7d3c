-- The levels of a certificate in parts: "the levels for start-up, services and NMI as they add up to the number".
use Rattle.std.specs.Prelude.{ℕ, ◌+◌, ◌≡◌, List}
use Rattle.isa.specs.Sources.{reset_vector}
use Rattle.isa.specs.declared.Source.TheVariants.{Nmi}
use Rattle.certificate.specs.Marks.{need_at}
use Rattle.certificate.specs.Levels.{source_levels, levels_for, levels_of}
use Rattle.reports.specs.declared.levels.Levels.{Levels}

-- the need at FFEh, the levels of the deepest service of sources 1 to 4, and those of NMI's
pub record Parts (certificate : List ℕ) (wired : ℕ) (r : Levels) : Type 0 where
  pub start : r.start ≡ need_at certificate reset_vector
  pub services : r.services ≡ source_levels certificate wired
  pub nmi : r.nmi ≡ levels_for certificate wired Nmi

-- they add up to the number that is accepted
-- proved by parts_add_up, proofs/PartsAddUp
abbrev pub PartsAddUp : Type 0
PartsAddUp =
    (certificate : List ℕ) (wired : ℕ) (r : Levels) → Parts certificate wired r
    → r.start + r.services + r.nmi ≡ levels_of certificate wired
