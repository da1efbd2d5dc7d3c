-- Answers as one number: bits 0 to 7 the refusal's or stop's number (0: none), bits 8 to 23 its address, bits 24 to 55
-- a value.
use Rattle.std.specs.Prelude.{ℕ, ◌+◌, ◌*◌, Bool, true, false, cond, List, leb, length, Option, Some, None}
use Rattle.isa.specs.Refusals.{Numbered, plain, located, Answer, Ended, done, refused}
use Rattle.isa.specs.Rom.{is_image}
use Rattle.data.specs.declared.Origin.{Origin}
use Rattle.data.specs.declared.Origin.TheVariants.{Ram, Register, Rom, NoRom}
use Rattle.machine.specs.declared.reading.Reading.{Reading}
use Rattle.gauge.specs.Sleep.{Size}
use Rattle.gauge.specs.Width.{width_of}

abbrev pub word : (number address value : ℕ) → ℕ
word number address value = number + address * 0x100 + value * 0x1000000

-- a refusal or a stop
abbrev pub refusal_word : Numbered → ℕ
refusal_word (plain n) = word n 0 0
refusal_word (located n a) = word n a 0

-- step, run and reading on an invalid state: 2, after 1
abbrev pub invalid_word : (image : List ℕ) → ℕ
invalid_word image = refusal_word (cond (is_image (length image)) (plain 2) (plain 1))

-- the check's levels and the maker's, the length of a written instruction
abbrev pub answer_word : Answer ℕ → ℕ
answer_word (done value) = word 0 0 value
answer_word (refused r) = refusal_word r

-- W-203: an origin by number, 0 where nothing was read
abbrev pub origin_number : Option Origin → ℕ
origin_number None = 0
origin_number (Some Ram) = 1
origin_number (Some Register) = 2
origin_number (Some (Rom address)) = 3
origin_number (Some NoRom) = 4

-- "the ROM window with its ROM address": 0 for all others
abbrev pub rom_address : Option Origin → ℕ
rom_address None = 0
rom_address (Some Ram) = 0
rom_address (Some Register) = 0
rom_address (Some (Rom address)) = address
rom_address (Some NoRom) = 0

-- a byte or a step's cycles in bits 24 to 31, the origin's number in bits 32 to 39, the ROM address in bits 40 to 55
abbrev pub origin_word : (value : ℕ) → Option Origin → ℕ
origin_word value read = word 0 0 (value + origin_number read * 0x100 + rom_address read * 0x10000)

-- a step's cycles and what it read; a refused or stopped step has neither
abbrev pub step_word : Answer ℕ → Option Origin → ℕ
step_word (done cycles) read = origin_word cycles read
step_word (refused r) read = refusal_word r

-- a byte that was read, and its origin
abbrev pub reading_word : Answer Reading → ℕ
reading_word (done r) = origin_word r.byte (Some r.origin)
reading_word (refused r) = refusal_word r

-- W-201: the width in bits 24 to 39, the steps in bits 40 to 55
abbrev pub size_word : Answer Size → ℕ
size_word (done size) = word 0 0 (size.width + size.steps * 0x10000)
size_word (refused r) = refusal_word r

-- a count beyond its byte is refused with 8, before anything else
abbrev pub width_word : (image certificate : List ℕ) → (count : ℕ) → ℕ
width_word image certificate count =
    cond (leb count 255) (size_word (width_of image certificate count)) (refusal_word (plain 8))

-- a run or a host store has no value
abbrev pub ended_word : Ended → ℕ
ended_word (done tt) = word 0 0 0
ended_word (refused r) = refusal_word r

-- a run's refusals, 1, 2, 12 and 11, have no address; a stop has one
abbrev pub is_refused_run : Ended → Bool
is_refused_run (done tt) = false
is_refused_run (refused (plain n)) = true
is_refused_run (refused (located n a)) = false
