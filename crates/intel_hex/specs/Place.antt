-- The bytes of a data record put to their addresses. A memory is a list of cells, one for each address from 000h to
-- FFFh: a cell holds the byte that it is named with, and none where it is not named.
use Rattle.std.specs.Prelude.{ℕ, suc, ◌+◌, ◌*◌, Bool, true, false, ◌&&◌, List, [], ◌∷◌, eqb, leb, ltb, take, drop, get_or, set, replicate, Option, None, Some}
use Rattle.isa.specs.Refusals.{unless}
use Rattle.intel_hex.specs.declared.Fault.{Fault}
use Rattle.intel_hex.specs.declared.Fault.TheVariants.{OutsideImage, DifferingData}

abbrev pub Memory : Type 0
Memory = List (Option ℕ)

-- where a line leads: to the next, with whether the end record was read and the memory; or to a refusal
pub data Step : Type 0 where
  goes : (ended : Bool) (memory : Memory) → Step
  faulty : Fault → Step

-- a memory of which nothing is named
unfoldable pub none_named : Memory
none_named = replicate 4096 None

-- the address of a record stands after the count, its high byte first
abbrev pub address_of : (bytes : List ℕ) → ℕ
address_of bytes = get_or bytes 1 0 * 256 + get_or bytes 2 0

-- so many data bytes stand after count, address and type
abbrev pub data_of : (count : ℕ) → (bytes : List ℕ) → List ℕ
data_of count bytes = take count (drop 4 bytes)

-- an image that begins at `first` has the address: it is not below the first, nor above FFFh
abbrev pub is_inside : (first address : ℕ) → Bool
is_inside first address = leb first address && ltb address 4096

-- a cell may be named with a byte where it is not named, or is named with that byte
abbrev pub agrees : (cell : Option ℕ) → (byte : ℕ) → Bool
agrees None byte = true
agrees (Some named) byte = eqb named byte

-- data is placed byte by byte, upward from the address; the first byte that cannot be placed refuses the line
unfoldable pub placed : (first address : ℕ) → (memory : Memory) → (bytes : List ℕ) → Step
placed first address memory [] = goes false memory
placed first address memory (b ∷ bytes) =
    unless (is_inside first address) (faulty OutsideImage)
    (unless (agrees (get_or memory address None) b) (faulty DifferingData)
    (placed first (suc address) (set memory address (Some b)) bytes))
