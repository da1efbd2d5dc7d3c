-- Document 01's P11 and P12: "the job program prints exactly ..".
use Rattle.std.specs.Prelude.{◌≡◌, [], ◌∷◌}
use Rattle.isa.specs.Refusals.{plain, located, refused}
use Rattle.certificate.specs.Cases.{image11, certificate11, put}
use Rattle.jobs.specs.CheckJob.{job_for, job_of}
use Rattle.jobs.specs.Line.{line_of}

-- what is printed, byte for byte
-- proved by printed_cases, proofs/Cases
pub record PrintedCases : Type 0 where
  -- P11: "`accepted 2` and a newline"
  pub p11 :
      line_of (job_of (job_for 0x01 image11 certificate11))
      ≡ 0x61 ∷ 0x63 ∷ 0x63 ∷ 0x65 ∷ 0x70 ∷ 0x74 ∷ 0x65 ∷ 0x64 ∷ 0x20 ∷ 0x32 ∷ 0x0A ∷ []
  -- P12: "the same with 20h at 883h prints `refused 17 883` and a newline"
  pub p12 :
      line_of (job_of (job_for 0x01 image11 (put 0x883 (0x20 ∷ []) certificate11)))
      ≡ 0x72 ∷ 0x65 ∷ 0x66 ∷ 0x75 ∷ 0x73 ∷ 0x65 ∷ 0x64 ∷ 0x20 ∷ 0x31 ∷ 0x37 ∷ 0x20 ∷ 0x38 ∷ 0x38 ∷ 0x33 ∷ 0x0A ∷ []
  -- "a refusal without address ends after the number": `refused 9`
  pub without_address :
      line_of (refused (plain 9)) ≡ 0x72 ∷ 0x65 ∷ 0x66 ∷ 0x75 ∷ 0x73 ∷ 0x65 ∷ 0x64 ∷ 0x20 ∷ 0x39 ∷ 0x0A ∷ []
  -- "address in three hex digits", in upper case: `refused 4 00F`
  pub upper_case :
      line_of (refused (located 4 0x00F))
      ≡ 0x72 ∷ 0x65 ∷ 0x66 ∷ 0x75 ∷ 0x73 ∷ 0x65 ∷ 0x64 ∷ 0x20 ∷ 0x34 ∷ 0x20 ∷ 0x30 ∷ 0x30 ∷ 0x46 ∷ 0x0A ∷ []
