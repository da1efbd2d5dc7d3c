-- P11 and P12, printed: the check's answer, and the line of it.
use mathlib.Core.Path.{refl, ap, ◌∙◌}
use mathlib.Core.List.{[], ◌∷◌}
use Rattle.certificate.specs.Cases.{image11, certificate11, put}
use Rattle.certificate.proofs.Cases.{check_cases}
use Rattle.text_line.specs.Digits.{decimal_of}
use Rattle.jobs.specs.Line.{line_of}
use Rattle.jobs.specs.Cases.{PrintedCases}
use Rattle.jobs.proofs.CheckJob.{jobs_are_checked}

pub printed_cases : PrintedCases
unfolding line_of decimal_of
printed_cases =
    record {
      p11 = ap line_of (jobs_are_checked 0x01 image11 certificate11 refl refl ∙ check_cases.p11);
      p12 =
          ap line_of
          (jobs_are_checked 0x01 image11 (put 0x883 (0x20 ∷ []) certificate11) refl refl ∙ check_cases.p12);
      without_address = refl;
      upper_case = refl;
    }
