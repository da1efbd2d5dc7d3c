-- Laws of a job: a job put together is taken apart into its parts.
use Prim.Native.Nat.{ℕ, ◌+◌, ◌-◌, ◌/◌, ◌≤◌}
use native.Mathlib.Omega.{arith}
use native.Mathlib.Nat.{div-add-mod'}
use mathlib.Core.Path.{◌≡◌, refl}
use mathlib.Core.Bool.{true}
use mathlib.Core.List.{List, ◌++◌}
use lib.ListN.{length, take, drop, length-append}
use lib.Seq.{take_at, drop_at, take_all, drop-drop}
use borrow.Author.Tests.{eq-eqb, le-leb}
use Rattle.isa.proofs.Halves.{by_length}
use Rattle.certificate.specs.Check.{check_of}
use Rattle.jobs.specs.CheckJob.{is_count, count_of, job_of, job_for, JobsAreChecked}

module _ (wired : ℕ) (image certificate : List ℕ) (same : length certificate ≡ length image) where
  abbrev job : List ℕ
  job = job_for wired image certificate

  abbrev count : ℕ
  count = 1 + (length image + length certificate)

  checked : is_count count ≡ true → job_of job ≡ check_of image certificate wired
  unfolding job_of
  checked known =
      let n = length image in
      let joined = length-append image certificate in
      let counted : count_of job ≡ count = div-add-mod' count 256 in
      let long : 3 ≤ length job = omega (arith, joined) in
      let whole : length job - 3 ≡ count = omega (arith, joined) in
      let half : (count - 1) / 2 ≡ n = omega arith in
      let first : take n (image ++ certificate) ≡ image = take_at image certificate n refl in
      let rest : drop n (image ++ certificate) ≡ certificate = drop_at image certificate n refl in
      let last : take n certificate ≡ certificate = take_all n certificate (omega arith) in
      rw (le-leb _ _ long, counted, known, eq-eqb _ _ whole, half, ← drop-drop n 4 job, first, rest, last)

pub jobs_are_checked : JobsAreChecked
jobs_are_checked wired image certificate is same =
    checked wired image certificate same
    (rw same (by_length (λ n. is_count (1 + (n + n)) ≡ true) refl refl (length image) is))
