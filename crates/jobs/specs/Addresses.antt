-- Three hexadecimal digits state the whole address.
use Rattle.std.specs.Prelude.{ℕ, ◌<◌, ◌≡◌, List}
use Rattle.isa.specs.Refusals.{located, refused}
use Rattle.jobs.specs.CheckJob.{job_of}

-- "address in three hex digits": every address that a job's answer gives is below 1000h
-- proved by three_digits_are_enough, proofs/Addresses
abbrev pub ThreeDigitsAreEnough : Type 0
ThreeDigitsAreEnough =
    (job : List ℕ) (number address : ℕ) → job_of job ≡ refused (located number address) → address < 0x1000
