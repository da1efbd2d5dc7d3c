-- What a line leads to: the first fault that applies, or how the lines go on.
use Rattle.std.specs.Prelude.{ℕ, ◌+◌, ◌*◌, ◌%◌, Bool, true, false, cond, List, [], ◌∷◌, eqb, length, get_or, Result, Ok, Err}
use Rattle.isa.specs.Refusals.{unless}
use Rattle.intel_hex.specs.declared.Fault.{Fault}
use Rattle.intel_hex.specs.declared.Fault.TheVariants.{NoColon, BadDigit, WrongLength, BadChecksum, UnknownType}
use Rattle.intel_hex.specs.declared.Fault.TheVariants.{NonZeroBase, AfterEnd}
use Rattle.intel_hex.specs.Digits.{are_digits, bytes_of, total}
use Rattle.intel_hex.specs.Place.{Memory, Step, goes, faulty, address_of, data_of, placed}

-- a record is count, address, type, so many data bytes, and checksum
abbrev pub count_of : (bytes : List ℕ) → ℕ
count_of bytes = get_or bytes 0 0

abbrev pub type_of : (bytes : List ℕ) → ℕ
type_of bytes = get_or bytes 3 0

-- types 02 and 04 set a base of two bytes, added to the addresses after it: only a base of 0, which changes nothing
unfoldable pub after_base : (memory : Memory) → (bytes : List ℕ) → Step
after_base memory bytes =
    unless (eqb (count_of bytes) 2) (faulty WrongLength)
    (unless (eqb (get_or bytes 4 0) 0) (faulty NonZeroBase)
    (unless (eqb (get_or bytes 5 0) 0) (faulty NonZeroBase)
    (goes false memory)))

-- type 01 ends the file, and has no data
abbrev pub after_end : (memory : Memory) → (bytes : List ℕ) → Step
after_end memory bytes = unless (eqb (count_of bytes) 0) (faulty WrongLength) (goes true memory)

-- a record by its type: 00 data, 01 end, 02 and 04 base; no other is known
unfoldable pub after_record : (first : ℕ) → (memory : Memory) → (bytes : List ℕ) → Step
after_record first memory bytes =
    cond (eqb (type_of bytes) 0) (placed first (address_of bytes) memory (data_of (count_of bytes) bytes))
    (cond (eqb (type_of bytes) 1) (after_end memory bytes)
    (cond (eqb (type_of bytes) 2) (after_base memory bytes)
    (cond (eqb (type_of bytes) 4) (after_base memory bytes)
    (faulty UnknownType))))

-- what stands after the colon: only digits; ten, and two for each data byte; and the sum of all bytes, with the
-- checksum, is 0 modulo 256
unfoldable pub after_digits : (first : ℕ) → (memory : Memory) → (digits : List ℕ) → Step
after_digits first memory digits =
    unless (are_digits digits) (faulty BadDigit)
    (unless (eqb (length digits) (10 + count_of (bytes_of digits) * 2)) (faulty WrongLength)
    (unless (eqb (total (bytes_of digits) % 256) 0) (faulty BadChecksum)
    (after_record first memory (bytes_of digits))))

-- a line that is not empty: none may stand after the end record, and it begins with a colon
abbrev pub after_colon : (first : ℕ) → (ended : Bool) → (memory : Memory) → (character : ℕ) → (rest : List ℕ) → Step
after_colon first ended memory character rest =
    cond ended (faulty AfterEnd)
    (unless (eqb character 58) (faulty NoColon)
    (after_digits first memory rest))

-- an empty line is passed over, also after the end record
unfoldable pub after_line : (first : ℕ) → (ended : Bool) → (memory : Memory) → (line : List ℕ) → Step
after_line first ended memory [] = goes ended memory
after_line first ended memory (c ∷ rest) = after_colon first ended memory c rest

-- the program's answer to a line, with the memory that it leaves
abbrev pub step_of : Result Bool Fault → (memory : Memory) → Step
step_of (Ok ended) memory = goes ended memory
step_of (Err fault) memory = faulty fault
