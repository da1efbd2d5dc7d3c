-- What the gauge answers of every image, certificate and count, in document 02's words (W-201). The claim is
-- `ExactlyOne`, at the end.
use Rattle.std.specs.Prelude.{ℕ, ◌+◌, ◌*◌, ◌<◌, ◌≤◌, ◌≡◌, List, get_or}
use Rattle.isa.specs.Refusals.{Numbered, plain, done, refused}
use Rattle.certificate.specs.Check as check
use Rattle.gauge.specs.Sleep.{machine_after, AsleepAfter, AwakeAfter, AllDone, size_as}
use Rattle.gauge.specs.Width.{start_of, unpaged_check, width_of}

-- "the check with nothing wired" accepts
pub record Accepted (image certificate : List ℕ) : Type 0 where
  pub levels : ℕ
  pub accepts : unpaged_check image certificate ≡ check.accepted levels

-- 23: "the check with nothing wired refuses", with any number, or the image is paged
pub record NotChecked (image certificate : List ℕ) : Type 0 where
  pub refusal : Numbered
  pub refuses : unpaged_check image certificate ≡ refused refusal

-- "It starts a fresh machine, stores the count at 0C0h and runs without requests until the machine sleeps."
pub record Measured (image certificate : List ℕ) (count width steps : ℕ) : Type 0 where
  pub accepted : Accepted image certificate
  -- the machine sleeps after so many steps, the one that falls asleep counted, and after no fewer
  pub least : 1 ≤ steps
  pub most : steps ≤ 65535
  pub asleep : AsleepAfter image (start_of count) steps
  pub awake : (n : ℕ) → n < steps → AwakeAfter image (start_of count) n
  -- each of these steps was done: none stopped
  pub all_done : AllDone image (start_of count) steps
  -- "256 times the byte at 084h plus the byte at 085h"
  pub shows :
      width
      ≡ 256 * get_or (machine_after image (start_of count) steps).bytes 0x84 0
      + get_or (machine_after image (start_of count) steps).bytes 0x85 0

-- 24: "65,535 steps pass without sleep", all of them done
pub record NeverSlept (image certificate : List ℕ) (count : ℕ) : Type 0 where
  pub accepted : Accepted image certificate
  pub awake : (n : ℕ) → n ≤ 65535 → AwakeAfter image (start_of count) n
  pub all_done : AllDone image (start_of count) 65535

-- the gauge answers with a width, 23 or 24 exactly where the paper says so: only there (`measured`, `refused-23`,
-- `refused-24`), and always there (`measures`, `refuses-23`, `refuses-24`)
pub record Answers (image certificate : List ℕ) (count : ℕ) : Type 0 where
  pub measured :
      (width steps : ℕ) → width_of image certificate count ≡ done (size_as width steps)
      → Measured image certificate count width steps
  pub measures :
      (width steps : ℕ) → Measured image certificate count width steps
      → width_of image certificate count ≡ done (size_as width steps)
  pub refused_23 : width_of image certificate count ≡ refused (plain 23) → NotChecked image certificate
  pub refuses_23 : NotChecked image certificate → width_of image certificate count ≡ refused (plain 23)
  pub refused_24 : width_of image certificate count ≡ refused (plain 24) → NeverSlept image certificate count
  pub refuses_24 : NeverSlept image certificate count → width_of image certificate count ≡ refused (plain 24)

-- one of the three holds
pub data Outcome (image certificate : List ℕ) (count : ℕ) : Type 0 where
  measured :
      (width steps : ℕ) → Measured image certificate count width steps → Outcome image certificate count
  not_checked : NotChecked image certificate → Outcome image certificate count
  never_slept : NeverSlept image certificate count → Outcome image certificate count

-- .. and no second one, nor another width or other steps
pub record NoOther (image certificate : List ℕ) (count : ℕ) : Type 0 where
  pub measured_is_checked :
      (width steps : ℕ) → Measured image certificate count width steps → NotChecked image certificate → ⊥
  pub measured_slept :
      (width steps : ℕ) → Measured image certificate count width steps → NeverSlept image certificate count → ⊥
  pub awake_is_checked : NeverSlept image certificate count → NotChecked image certificate → ⊥
  pub one_size :
      (width steps width' steps' : ℕ) → Measured image certificate count width steps
      → Measured image certificate count width' steps' → (width ≡ width') × (steps ≡ steps')

-- W-201, of every image, certificate and count, of any length: a width, 23 or 24, each exactly where the paper says so,
-- and nothing else
-- proved by exactly_one, proofs/Outcomes
pub record ExactlyOne : Type 0 where
  pub answers : (image certificate : List ℕ) (count : ℕ) → Answers image certificate count
  pub outcome : (image certificate : List ℕ) (count : ℕ) → Outcome image certificate count
  pub no_other : (image certificate : List ℕ) (count : ℕ) → NoOther image certificate count
