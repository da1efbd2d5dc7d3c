-- What a job answers, by number (document 01, "Job program").
use Rattle.std.specs.Prelude.{ℕ, ◌+◌, ◌*◌, ◌-◌, ◌/◌, ◌%◌, ◌≡◌, Bool, true, ◌&&◌, ◌||◌, List, ◌∷◌, ◌++◌, leb, eqb, length, take, drop, get_or}
use Rattle.isa.specs.Refusals.{plain, refused, unless}
use Rattle.isa.specs.Rom.{is_space}
use Rattle.certificate.specs.Check.{Verdict, check_of}

-- "a two-byte big-endian count of the bytes after it": it stands after the version
abbrev pub count_of : (job : List ℕ) → ℕ
count_of job = get_or job 1 0 * 256 + get_or job 2 0

-- "(4097 or 8193 ..)"
abbrev pub is_count : ℕ → Bool
is_count n = eqb n 4097 || eqb n 8193

-- "(.. and equal to them)": "the bytes after it" are those after the first three
abbrev pub is_whole : (job : List ℕ) → Bool
is_whole job = is_count (count_of job) && eqb (length job - 3) (count_of job)

-- "wired byte, image, certificate": the last two have as many bytes each, half of the count without the wired byte
abbrev pub rom_bytes : (job : List ℕ) → ℕ
rom_bytes job = (count_of job - 1) / 2

abbrev pub wired_of : (job : List ℕ) → ℕ
wired_of job = get_or job 3 0

abbrev pub image_of : (size : ℕ) → (job : List ℕ) → List ℕ
image_of size job = take size (drop 4 job)

abbrev pub certificate_of : (size : ℕ) → (job : List ℕ) → List ℕ
certificate_of size job = take size (drop (4 + size) job)

-- "20 fewer than three bytes; 21 first byte not 1; 22 length.", then what the check answers
unfoldable pub job_of : (job : List ℕ) → Verdict
job_of job =
    unless (leb 3 (length job)) (refused (plain 20))
    (unless (eqb (get_or job 0 0) 1) (refused (plain 21))
    (unless (is_whole job) (refused (plain 22))
    (check_of (image_of (rom_bytes job) job) (certificate_of (rom_bytes job) job) (wired_of job))))

-- "A job is version 1, a two-byte big-endian count of the bytes after it .., wired byte, image, certificate."
abbrev pub job_for : (wired : ℕ) → (image certificate : List ℕ) → List ℕ
job_for wired image certificate =
    let count = 1 + (length image + length certificate) in
    1 ∷ count / 256 ∷ count % 256 ∷ wired ∷ (image ++ certificate)

-- a job of an image of either length and a certificate as long answers what the check answers of them
-- proved by jobs_are_checked, proofs/CheckJob
abbrev pub JobsAreChecked : Type 0
JobsAreChecked =
    (wired : ℕ) (image certificate : List ℕ)
    → is_space (length image) ≡ true
    → length certificate ≡ length image
    → job_of (job_for wired image certificate) ≡ check_of image certificate wired
