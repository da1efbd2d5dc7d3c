-- The places of what a command line can give. A list of places has at each the number of the argument that gives it,
-- and 0 where none does; the struct Places says by Option which are given.
use Rattle.std.specs.Prelude.{ℕ, Bool, eqb, get_or, set, replicate, Option, None, Some, is_none}
use Rattle.options.specs.declared.places.Place.{Place}
use Rattle.options.specs.declared.places.Place.TheVariants as named
use Rattle.options.specs.declared.places.Places.{Places}

-- how many a list of places has
abbrev pub size : ℕ
size = 16

-- here stands the place whose value comes next, and 0 for none
abbrev pub awaited : ℕ
awaited = 0

abbrev pub image : ℕ
image = 1

-- the record of a session, to play
abbrev pub session : ℕ
session = 2

abbrev pub wired : ℕ
wired = 3

abbrev pub marks : ℕ
marks = 4

abbrev pub output : ℕ
output = 5

abbrev pub steps : ℕ
steps = 6

abbrev pub request : ℕ
request = 7

abbrev pub count : ℕ
count = 8

abbrev pub rom : ℕ
rom = 9

abbrev pub fill : ℕ
fill = 10

abbrev pub raw : ℕ
raw = 11

abbrev pub quiet : ℕ
quiet = 12

abbrev pub help : ℕ
help = 13

-- the number of a place that is named
abbrev pub number_of : Place → ℕ
number_of named.Image = image
number_of named.Record = session
number_of named.Wired = wired
number_of named.Marks = marks
number_of named.Output = output
number_of named.Steps = steps
number_of named.Request = request
number_of named.Count = count
number_of named.Rom = rom
number_of named.Fill = fill
number_of named.Raw = raw
number_of named.Quiet = quiet
number_of named.Help = help

-- a place's number, from 0
abbrev pub index_of : Place → ℕ
index_of named.Image = 0
index_of named.Record = 1
index_of named.Wired = 2
index_of named.Marks = 3
index_of named.Output = 4
index_of named.Steps = 5
index_of named.Request = 6
index_of named.Count = 7
index_of named.Rom = 8
index_of named.Fill = 9
index_of named.Raw = 10
index_of named.Quiet = 11
index_of named.Help = 12

-- two places are the same
abbrev pub is_place : (p q : Place) → Bool
is_place p q = eqb (index_of p) (index_of q)

-- no word is read
abbrev pub nothing_given : Places
nothing_given = record { arguments = replicate 13 None; awaited = None }

-- the number of the argument that gives a place
abbrev pub argument_of : Places → (p : Place) → Option ℕ
argument_of places p = get_or places.arguments (index_of p) None

-- no argument gives a place
abbrev pub is_open : Places → (p : Place) → Bool
is_open places p = is_none (argument_of places p)

-- an argument gives a place
abbrev pub given : Places → (p : Place) → (argument : ℕ) → Places
given places p argument =
    record { arguments = set places.arguments (index_of p) (Some argument); awaited = places.awaited }

-- the place whose value comes next
abbrev pub awaiting : Places → (awaited : Option Place) → Places
awaiting places awaited = record { arguments = places.arguments; awaited = awaited }
