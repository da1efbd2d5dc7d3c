-- Two small programs, so that W-201's claim is no claim about nothing: with them each of the three answers is given,
-- for every count.
use Rattle.std.specs.Prelude.{ℕ, ◌≡◌, List, [], ◌∷◌}
use Rattle.isa.specs.Refusals.{plain, done, refused}
use Rattle.certificate.specs.Cases.{blank, put}
use Rattle.gauge.specs.Sleep.{size_as}
use Rattle.gauge.specs.Width.{width_of}

-- FFEh JP 880h; 880h LD A,0C0h; 882h LD 085h,A; 884h STOP; 885h JP 884h
abbrev pub copying_image : List ℕ
copying_image =
    put 0xFFE (0x09 ∷ 0x88 ∷ []) (put 0x880 (0x1F ∷ 0xC0 ∷ 0x9F ∷ 0x85 ∷ 0x6D ∷ 0x49 ∷ 0x88 ∷ []) blank)

-- start-up code throughout
abbrev pub copying_certificate : List ℕ
copying_certificate =
    put 0xFFE (0x10 ∷ []) (put 0x880 (0x10 ∷ 0x00 ∷ 0x10 ∷ 0x00 ∷ 0x10 ∷ 0x10 ∷ []) blank)

-- FFEh JP FFEh
abbrev pub endless_image : List ℕ
endless_image = put 0xFFE (0xE9 ∷ 0xFF ∷ []) blank

-- start-up code
abbrev pub endless_certificate : List ℕ
endless_certificate = put 0xFFE (0x10 ∷ []) blank

-- proved by width_cases, proofs/Cases
pub record WidthCases : Type 0 where
  -- the width is the count, and STOP is the fourth step
  pub measured : (count : ℕ) → width_of copying_image copying_certificate count ≡ done (size_as count 4)
  -- without its marks the program is refused
  pub not_checked : (count : ℕ) → width_of copying_image blank count ≡ refused (plain 23)
  -- the program that jumps to itself never sleeps
  pub never_slept : (count : ℕ) → width_of endless_image endless_certificate count ≡ refused (plain 24)
