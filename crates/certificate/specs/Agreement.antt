-- A certificate is accepted exactly when all the rules of document 01 hold.
use Rattle.std.specs.Prelude.{ℕ, ◌≡◌, List}
use Rattle.certificate.specs.Check.{check_of, accepted}
use Rattle.certificate.specs.Rules.{Rules}

-- "Accepted means that nothing under Check below applies; the number is Levels.": accepted with a number exactly when
-- the rules hold with it, at most six
pub record Exactly (image certificate : List ℕ) (wired levels : ℕ) : Type 0 where
  pub sound : check_of image certificate wired ≡ accepted levels → Rules image certificate wired levels
  pub complete : Rules image certificate wired levels → check_of image certificate wired ≡ accepted levels

-- for every image, certificate, wired byte and number, so that "a check that always refuses, or always accepts the
-- empty table, falls"
-- proved by agreement, proofs/Agreement
abbrev pub Agreement : Type 0
Agreement = (image certificate : List ℕ) (wired levels : ℕ) → Exactly image certificate wired levels
