-- Sources by name, as `--wired` and `--request` have them.
use Rattle.std.specs.Prelude.{ℕ, suc, cond, List, [], ◌∷◌, ◌==◌, eqb, take, drop, codes, Option, None, Some, position}
use Rattle.std.specs.Int.Bits.{bit_or}
use Rattle.intel_hex.specs.Lines.{before}
use Rattle.options.specs.Words.{look_up, named, same}
use Rattle.options.specs.Numbers.{decimal_named}

-- the bit of a source in the wired byte: bit 0 for NMI, bits 1 to 4 for sources 1 to 4; none for a word that is no
-- source
unfoldable pub bit_named : (word : List ℕ) → Option ℕ
bit_named =
    look_up
    (named (codes "nmi") 1
    ∷ named (codes "1") 2
    ∷ named (codes "2") 4
    ∷ named (codes "3") 8
    ∷ named (codes "4") 16
    ∷ [])

-- the parts of a text, with a letter between them
unfoldable pub parts_of : (letter : ℕ) → (text : List ℕ) → List (List ℕ)
parts_of letter [] = [] ∷ []
parts_of letter (c ∷ rest) = cond (eqb c letter) ([] ∷ parts_of letter rest) (before c (parts_of letter rest))

-- a byte with a source's bit, and the bits of the names after it
abbrev pub with_bit : (byte : ℕ) → (bit : Option ℕ) → (next : ℕ → Option ℕ) → Option ℕ
with_bit byte None next = None
with_bit byte (Some bit) next = next (bit_or byte bit)

-- a byte, and the bits of names; every one must be that of a source
unfoldable pub wired_after : (byte : ℕ) → (names : List (List ℕ)) → Option ℕ
wired_after byte [] = Some byte
wired_after byte (name ∷ names) = with_bit byte (bit_named name) (λ after. wired_after after names)

-- the wired byte of `none`, or of names with commas between them
unfoldable pub wired_named : (text : List ℕ) → Option ℕ
wired_named text = cond (same text (codes "none")) (Some 0) (wired_after 0 (parts_of 0x2C text))

-- a step and a source's bit
abbrev pub request_of : (step bit : Option ℕ) → Option (ℕ × ℕ)
request_of (Some step) (Some bit) = Some (step, bit)
request_of (Some step) None = None
request_of None bit = None

-- .. on both sides of a letter
abbrev pub request_at : (text : List ℕ) → (middle : Option ℕ) → Option (ℕ × ℕ)
request_at text None = None
request_at text (Some middle) = request_of (decimal_named (take middle text)) (bit_named (drop (suc middle) text))

-- a request, as `3=nmi`: the step, from 0, and the source, on both sides of the first `=`
unfoldable pub request_named : (text : List ℕ) → Option (ℕ × ℕ)
request_named text = request_at text (position (λ c. c == 0x3D) text)
