-- Refusals by the numbers of document 01 ("What each operation turns down") and of document 02.
use Rattle.std.specs.Prelude.{ℕ, Bool, true, false, Result, Ok, Err}
use Rattle.isa.specs.declared.Number.{Number}
use Rattle.isa.specs.declared.Number.TheVariants.{Plain, Located}
use Rattle.isa.specs.declared.Refusal.{Refusal}
use Rattle.isa.specs.declared.Refusal.TheVariants as R

-- "A refusal is a number": alone, or with an address
pub data Numbered : Type 0 where
  plain : (number : ℕ) → Numbered
  located : (number address : ℕ) → Numbered

-- "4 to 7 and 14 to 17 also give the instruction's address (a request's 6 gives PC), 18 the vector's."
abbrev pub numbered : Refusal → Numbered
numbered R.ImageLength = plain 1
numbered R.IllFormedMachine = plain 2
numbered R.AddressRange = plain 3
numbered (R.OutsideRom a) = located 4 a
numbered (R.UndefinedOpcode a) = located 5 a
numbered (R.StackFull a) = located 6 a
numbered (R.StackEmpty a) = located 7 a
numbered R.OperandRange = plain 8
numbered R.BufferLength = plain 9
numbered R.WindowAddress = plain 10
numbered R.UnknownSource = plain 11
numbered R.StepCount = plain 12
numbered R.CertificateLength = plain 13
numbered (R.MalformedMark a) = located 14 a
numbered (R.MisplacedReturn a) = located 15 a
numbered (R.SuccessorKind a) = located 16 a
numbered (R.NeedTooSmall a) = located 17 a
numbered (R.VectorKind a) = located 18 a
numbered R.TooManyLevels = plain 19
numbered R.JobTooShort = plain 20
numbered R.JobVersion = plain 21
numbered R.JobLength = plain 22
-- document 02, W-201: "It refuses with 23 when the check with nothing wired refuses [..], and with 24 when 65,535 steps
-- pass without sleep."
numbered R.CheckRefused = plain 23
numbered R.NoSleep = plain 24
-- W-202: "25 when the buffer isn't the image's length, then 26 exactly when no certificate would be accepted"
numbered R.CertificateBuffer = plain 25
numbered R.NoCertificate = plain 26
-- W-206: "27 for a first byte other than 1, 28 for a record under three bytes or a wrong count, and 29 for an unknown
-- or cut entry"; W-207: 27 "for any first byte but 1 and 2", 28 also for "a version 2 record under four bytes or whose
-- count is below 65,536"
numbered R.RecordVersion = plain 27
numbered R.RecordLength = plain 28
numbered R.RecordEntry = plain 29
-- W-207: "and with 30 one above 1,048,576"
numbered R.RecordTooLong = plain 30

-- the program's number of a refusal
abbrev pub as_numbered : Number → Numbered
as_numbered (Plain n) = plain n
as_numbered (Located n a) = located n a

-- an operation's answer: done, with a value, or refused or stopped, by number
pub data Answer (A : Type 0) : Type 0 where
  done : A → Answer A
  refused : Numbered → Answer A

-- the program's answer by these numbers
abbrev pub answered : {A : Type 0} → Result A Refusal → Answer A
answered (Ok v) = done v
answered (Err r) = refused (numbered r)

-- .. of an operation that answers no value
abbrev pub Ended : Type 0
Ended = Answer (Unit {0})

-- "The first that applies is given": the refusal where a test fails, else what the rest answers
abbrev pub unless : {A : Type 0} → Bool → A → A → A
unless true refusal more = more
unless false refusal more = refusal
