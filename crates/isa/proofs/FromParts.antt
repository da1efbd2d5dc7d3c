-- What decoding answers, by the bytes as they are read from an image's parts.
use Rattle.std.proofs.Common.{◌≡◌, ℕ, List, ◌++◌}
use Rattle.std.specs.Prelude.{Option}
use Rattle.isa.specs.Rom.{IsImage, Halves, page_of, fixed_of, space_of}
use Rattle.isa.specs.Refusals.{Answer}
use Rattle.isa.specs.Decode.{Decoding, code_as, decode_of}
use Rattle.isa.proofs.Halves.{halves}

-- the bytes by their case
pub by_code : (a : ℕ) (code x : Option (ℕ × ℕ × ℕ)) (d : Answer Decoding) → code_as a code ≡ d → code ≡ x → code_as a x ≡ d
by_code a code x d p q = rw q at p

pub decoded : (image : List ℕ) (bank a : ℕ) (page fixed : List ℕ) (code x : Option (ℕ × ℕ × ℕ)) → page ≡ page_of image bank
    → fixed ≡ fixed_of image → IsImage image → (Halves page fixed → code_as a code ≡ decode_of (page ++ fixed) a)
    → code ≡ x → code_as a x ≡ decode_of (space_of image bank) a
unfolding space_of
decoded image bank a page fixed code x p q is read e =
    by_code a code x _ (rw (← p, ← q) (read (rw (p, q) (halves image bank is)))) e
