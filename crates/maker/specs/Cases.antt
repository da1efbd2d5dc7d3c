-- Three small programs, so that W-202's claims are no claims about nothing: two have a least certificate, which the
-- maker writes, and one has none.
use Rattle.std.specs.Prelude.{ℕ, ◌≡◌, List, [], ◌∷◌, length}
use Rattle.certificate.specs.Check.{marks_in}
use Rattle.isa.specs.Refusals.{plain, Answer, done, refused}
use Rattle.certificate.specs.Cases.{blank, put, image11, certificate11}
use Rattle.maker.specs.Least.{NoneAccepted, Least}
use Rattle.maker.specs.Make.{Makes}

-- FFEh JP 880h; 880h JRZ 883h; 881h JP 881h; 883h CALL 890h; 885h JP 881h; 890h RET
abbrev pub branching_image : List ℕ
branching_image =
    put 0xFFE (0x09 ∷ 0x88 ∷ [])
    (put 0x880 (0x14 ∷ 0x19 ∷ 0x88 ∷ 0x01 ∷ 0x89 ∷ 0x19 ∷ 0x88 ∷ []) (put 0x890 (0xCD ∷ []) blank))

-- "A branch counts both ways": 881h and 883h are marked, and 880h needs the level of the CALL at 883h; "and a CALL is
-- taken to return": 885h is marked
abbrev pub branching_certificate : List ℕ
branching_certificate =
    put 0xFFE (0x11 ∷ [])
    (put 0x880 (0x11 ∷ 0x10 ∷ 0x00 ∷ 0x11 ∷ 0x00 ∷ 0x10 ∷ []) (put 0x890 (0x40 ∷ []) blank))

-- a subroutine that calls itself: FFEh JP 880h; 880h CALL 890h; 882h JP 882h; 890h CALL 890h; 892h RET
abbrev pub recursive_image : List ℕ
recursive_image =
    put 0xFFE (0x09 ∷ 0x88 ∷ [])
    (put 0x880 (0x01 ∷ 0x89 ∷ 0x29 ∷ 0x88 ∷ []) (put 0x890 (0x01 ∷ 0x89 ∷ 0xCD ∷ []) blank))

-- whatever a buffer of the image's length holds, the maker answers these levels and writes this certificate
abbrev pub IsMade : (image : List ℕ) → (wired : ℕ) → (certificate : List ℕ) → (levels : ℕ) → Type 0
IsMade image wired certificate levels =
    (before after : List ℕ) (answer : Answer ℕ) → length before ≡ marks_in (length image)
    → Makes image wired before after answer
    → (answer ≡ done levels) × (after ≡ certificate)

-- proved by make_cases, proofs/Cases
pub record MakeCases : Type 0 where
  -- the certificate of document 01's P11 is the least one of its image with NMI wired, and so what the maker writes
  pub p11 : Least image11 0x01 certificate11 2
  pub p11_made : IsMade image11 0x01 certificate11 2
  -- a branch and a CALL
  pub branching : Least branching_image 0x00 branching_certificate 1
  pub branching_made : IsMade branching_image 0x00 branching_certificate 1
  -- a subroutine that calls itself would need more than six levels: no certificate is accepted, whatever is wired, and
  -- the maker refuses with 26
  pub recursive : (wired : ℕ) → NoneAccepted recursive_image wired
  pub recursive_refused :
      (before after : List ℕ) (answer : Answer ℕ) → length before ≡ marks_in (length recursive_image)
      → Makes recursive_image 0x00 before after answer → answer ≡ refused (plain 26)
