-- The store of a run: the numbers of instructions already decoded. What a run does is defined without it.
use Rattle.std.specs.Prelude.{ℕ, ◌<◌, ◌≡◌, List, get_or, Result, Ok, Err}
use Rattle.isa.specs.Refusals.{Answer, done, refused, numbered}
use Rattle.isa.specs.Rom.{space_of}
use Rattle.isa.specs.Decode.{Decoding, decode_of}
use Rattle.isa.specs.Decode as decode
use Rattle.isa.specs.Lengths.{length_of}
use Rattle.isa.specs.Predecoded.{instruction_of_word, cycles_of_word, tag_for, tag_of_word}
use Rattle.data.specs.Space.{program_of}
use Rattle.isa.specs.declared.Refusal.{Refusal}

-- what a number stands for, as decoding answers it
abbrev pub fetched_as : Result ℕ Refusal → Answer Decoding
fetched_as (Ok w) = done (decode.instruction (instruction_of_word w) (length_of (instruction_of_word w)) (cycles_of_word w))
fetched_as (Err r) = refused (numbered r)

-- each number that has the tag of a bank byte and an address stands for what decoding answers there, in whichever slot
-- it is: so none goes stale when 0CAh changes, and the choice of a slot is a matter of speed alone
abbrev pub Coherent : (image store : List ℕ) → Type 0
Coherent image store =
    (k bank a : ℕ) → a < 4096 → tag_of_word (get_or store k 0) ≡ tag_for bank a →
    fetched_as (Ok (get_or store k 0)) ≡ decode_of (space_of image bank) a

-- the number of a page is a bank byte that picks what stands in program space: under it a run keeps what it decodes, so
-- that bank bytes which pick the same page share it
abbrev pub InPlace : (image bytes : List ℕ) → (page : ℕ) → Type 0
InPlace image bytes page = space_of image page ≡ program_of image bytes
