-- The exit status: "0 accepted or done, 1 refused or stopped, 2 usage, input or output error (a failed write of the
-- answer included)".
use Rattle.std.specs.Prelude.{ℕ, ◌≡◌, ◌⊎◌, List, Result, Ok, Err}
use Rattle.reports.specs.declared.Status.{Status}
use Rattle.reports.specs.declared.Status.TheVariants as status
use Rattle.reports.specs.declared.output.NotWritten.{NotWritten}
use Rattle.isa.specs.Refusals.{done, refused}
use Rattle.certificate.specs.Check.{Verdict, accepted, check_of}

-- the number of a status
abbrev pub code_of : Status → ℕ
code_of status.Done = 0
code_of status.Refused = 1
code_of status.Failed = 2

-- that of the answer, but 2 where not all of it could be written
abbrev pub exit_status : (status : ℕ) → Result (Unit {0}) NotWritten → ℕ
exit_status status (Ok written) = status
exit_status status (Err not_written) = 2

-- "0 accepted .., 1 refused"
abbrev pub status_of : Verdict → ℕ
status_of (done levels) = 0
status_of (refused n) = 1

-- the exit status of an answer that was written, or 2
abbrev pub Exits : (answer : Verdict) → (status : ℕ) → Type 0
Exits answer status = (status ≡ status_of answer) ⊎ (status ≡ 2)

-- that of a refusal
abbrev pub Refuses : (status : ℕ) → Type 0
Refuses status = (status ≡ 1) ⊎ (status ≡ 2)

-- a certificate of an image is accepted for the wired sources
pub record IsAccepted (image : List ℕ) (wired : ℕ) : Type 0 where
  pub certificate : List ℕ
  pub levels : ℕ
  pub accepts : check_of image certificate wired ≡ accepted levels

-- the exit status 0, on which what stands after `&&` is done, is answered only where a certificate of the image is
-- accepted
abbrev pub ZeroMeansAccepted : (image : List ℕ) → (wired : ℕ) → (status : ℕ) → Type 0
ZeroMeansAccepted image wired status = status ≡ 0 → IsAccepted image wired
