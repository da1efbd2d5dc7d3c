-- Reading a data byte, with its origin (document 02, W-203).
use Rattle.std.specs.Prelude.{ℕ, List, length}
use Rattle.isa.specs.Refusals.{plain, Answer, done, refused, unless}
use Rattle.isa.specs.Rom.{is_image}
use Rattle.data.specs.declared.Origin.{Origin}
use Rattle.data.specs.Space.{program_of, read_of, origin_of}
use Rattle.machine.specs.declared.Machine.{Machine}
use Rattle.machine.specs.declared.reading.Reading.{Reading}
use Rattle.machine.specs.State.{is_well_formed}

-- "Reading a data byte shall also tell its origin"
abbrev pub reading_as : (byte : ℕ) → Origin → Reading
reading_as byte origin = record { byte = byte; origin = origin }

-- "The reading refuses with 1, then 2."
unfoldable pub reading_of : (image : List ℕ) → Machine → (a : ℕ) → Answer Reading
reading_of image m a =
    unless (is_image (length image)) (refused (plain 1))
    (unless (is_well_formed m) (refused (plain 2))
    (done
    (reading_as (read_of (program_of image m.bytes) m.bytes a) (origin_of (program_of image m.bytes) m.bytes a))))
