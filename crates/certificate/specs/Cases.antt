-- Document 01's bench cases of the check: P11, P12, and the last item of "Bench cases".
use Rattle.std.specs.Prelude.{ℕ, ◌-◌, ◌≡◌, List, [], ◌∷◌, replicate}
use Rattle.std.proofs.lemmas.List.Edits.{sets}
use Rattle.isa.specs.Refusals.{plain, located, refused}
use Rattle.certificate.specs.Check.{accepted, check_of}

-- a 2K image or certificate of 00h
abbrev pub blank : List ℕ
blank = replicate 2048 0x00

-- bytes put at a program address of a 2K image or certificate
abbrev pub put : (address : ℕ) → List ℕ → List ℕ → List ℕ
put a bytes l = sets l (a - 0x800) bytes

-- "a 2K image with 4D 01 89 19 88 at 880h, CD at 890h, 09 88 at FFEh, 4D at FFCh, else 00h"
abbrev pub image11 : List ℕ
image11 =
    put 0x880 (0x4D ∷ 0x01 ∷ 0x89 ∷ 0x19 ∷ 0x88 ∷ [])
    (put 0x890 (0xCD ∷ [])
    (put 0xFFE (0x09 ∷ 0x88 ∷ [])
    (put 0xFFC (0x4D ∷ []) blank)))

-- "marks 11h at FFEh and 880h, 21h at 881h and 883h, 40h at 890h, 30h at FFCh, else 00h"
abbrev pub certificate11 : List ℕ
certificate11 =
    put 0xFFE (0x11 ∷ [])
    (put 0x880 (0x11 ∷ [])
    (put 0x881 (0x21 ∷ [])
    (put 0x883 (0x21 ∷ [])
    (put 0x890 (0x40 ∷ [])
    (put 0xFFC (0x30 ∷ []) blank)))))

-- "wired 01h: .. `accepted 2`"
-- proved by check_cases, proofs/Cases
abbrev pub P11 : Type 0
P11 = check_of image11 certificate11 0x01 ≡ accepted 2

-- "the same with 20h at 883h .. `refused 17 883`"
-- proved by check_cases, proofs/Cases
abbrev pub P12 : Type 0
P12 = check_of image11 (put 0x883 (0x20 ∷ []) certificate11) 0x01 ≡ refused (located 17 0x883)

-- start-up code that jumps to itself, and RETI at the vectors of NMI and source 1
abbrev services : List ℕ
services = put 0xFFE (0xE9 ∷ 0xFF ∷ []) (put 0xFFC (0x4D ∷ []) (put 0xFF6 (0x4D ∷ []) blank))

-- its certificate, with a mark at FFEh
abbrev starting_with : (mark : ℕ) → List ℕ
starting_with mark = put 0xFFE (mark ∷ []) (put 0xFFC (0x30 ∷ []) (put 0xFF6 (0x30 ∷ []) blank))

-- the check's cases in one table
-- proved by check_cases, proofs/Cases
pub record CheckCases : Type 0 where
  pub p11 : P11
  pub p12 : P12
  -- "Start-up need 6, nothing wired: accepted"
  pub need_six : check_of services (starting_with 0x16) 0x00 ≡ accepted 6
  -- "need 4 with NMI and one source of need 0: 6"
  pub need_four : check_of services (starting_with 0x14) 0x03 ≡ accepted 6
  -- "need 5: refusal 19"
  pub need_five : check_of services (starting_with 0x15) 0x03 ≡ refused (plain 19)
  -- "Images of 2047 and 2049 bytes: 1."
  pub bytes_2047 : check_of (replicate 2047 0x00) (replicate 2047 0x00) 0x00 ≡ refused (plain 1)
  pub bytes_2049 : check_of (replicate 2049 0x00) (replicate 2049 0x00) 0x00 ≡ refused (plain 1)
  -- "A 2K image marked only at FFFh, opcode 09h there: 4."
  pub cut : check_of (put 0xFFF (0x09 ∷ []) blank) (put 0xFFF (0x10 ∷ []) blank) 0x00 ≡ refused (located 4 0xFFF)
