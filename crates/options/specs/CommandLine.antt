-- The command line, word by word: which argument gives what, or what is wrong with it. Places go by name; ByNumber has
-- the same by number.
use Rattle.std.specs.Prelude.{ℕ, ◌≡◌, Bool, true, false, cond, ◌||◌, List, [], ◌∷◌, Option, None, Some, Result, Ok, Err}
use Rattle.isa.specs.Refusals.{unless}
use Rattle.options.specs.declared.Command.{Command}
use Rattle.options.specs.declared.Command.TheVariants as command
use Rattle.options.specs.declared.places.Place.{Place}
use Rattle.options.specs.declared.places.Place.TheVariants as place
use Rattle.options.specs.declared.places.Places.{Places}
use Rattle.options.specs.declared.command_line.Usage.{Usage}
use Rattle.options.specs.declared.command_line.Usage.TheVariants as usage
use Rattle.options.specs.declared.words.Word.{Word}
use Rattle.options.specs.declared.words.Word.TheVariants as word
use Rattle.options.specs.Places.{argument_of, awaiting, given, is_open, is_place}
use Rattle.options.specs.Words.{word_for}

-- a place is one of some
abbrev pub is_among : (p : Place) → (places : List Place) → Bool
is_among p [] = false
is_among p (q ∷ rest) = is_place p q || is_among p rest

-- the options that every command has
abbrev pub common_options : List Place
common_options = place.Rom ∷ place.Fill ∷ place.Raw ∷ place.Quiet ∷ place.Help ∷ []

-- the options of a command beside them
abbrev pub options_of : Command → List Place
options_of command.Check = place.Wired ∷ place.Marks ∷ []
options_of command.Certify = place.Wired ∷ place.Output ∷ []
options_of command.List = place.Wired ∷ place.Marks ∷ []
options_of command.Trace = place.Steps ∷ place.Request ∷ []
options_of command.Size = place.Marks ∷ place.Count ∷ []
options_of command.Play = []
options_of command.Help = []
options_of command.Version = []

-- a command has an option
unfoldable pub has_option : Command → (p : Place) → Bool
has_option c p = is_among p common_options || is_among p (options_of c)

-- the files of a command after the image: to play, the record
abbrev pub more_files : Command → List Place
more_files command.Check = []
more_files command.Certify = []
more_files command.List = []
more_files command.Trace = []
more_files command.Size = []
more_files command.Play = place.Record ∷ []
more_files command.Help = []
more_files command.Version = []

-- what a command needs beside the image, in order
abbrev pub more_needed : Command → List Place
more_needed command.Check = place.Wired ∷ []
more_needed command.Certify = place.Wired ∷ place.Output ∷ []
more_needed command.List = []
more_needed command.Trace = place.Steps ∷ []
more_needed command.Size = place.Count ∷ []
more_needed command.Play = place.Record ∷ []
more_needed command.Help = []
more_needed command.Version = []

-- what is wrong, or that all is fine
abbrev pub Verdict : Type 0
Verdict = Result (Unit {0}) Usage

abbrev pub fine : Verdict
fine = Ok tt

-- where a word leads: the verdict, and the places after it
pub data Step : Type 0 where
  step : (v : Verdict) (places : Places) → Step

-- an argument gives a place: only requests may be given more than once
unfoldable pub noted : Places → (p : Place) → (argument : ℕ) → Step
noted places p argument =
    unless (is_place p place.Request || is_open places p) (step (Err (usage.Twice p)) places)
    (step fine (given places p argument))

-- a file's name gives the first of the files that is still open
abbrev pub noted_file : Places → (files : List Place) → (argument : ℕ) → Step
noted_file places [] argument = step (Err (usage.TooManyFiles argument)) places
noted_file places (file ∷ files) argument =
    cond (is_open places file) (step fine (given places file argument)) (noted_file places files argument)

-- an option gives its place, or has the next word give it
unfoldable pub noted_option : Places → Command → (p : Place) → (argument : ℕ) → (has_value : Bool) → Step
noted_option places c p argument has_value =
    unless (has_option c p) (step (Err (usage.Unfit p)) places)
    (cond has_value (step fine (awaiting places (Some p))) (noted places p argument))

-- a word that is no awaited value, by what it is
abbrev pub after_kind : Places → Command → Option Word → (argument : ℕ) → Step
after_kind places c (Some (word.Flag p)) argument = noted_option places c p argument false
after_kind places c (Some (word.Valued p)) argument = noted_option places c p argument true
after_kind places c (Some word.File) argument = noted_file places (place.Image ∷ more_files c) argument
after_kind places c None argument = step (Err (usage.UnknownOption argument)) places

-- .. and the value that is awaited, whatever it looks like
abbrev pub after_awaited : (awaited : Option Place) → Places → Command → Option Word → (argument : ℕ) → Step
after_awaited None places c w argument = after_kind places c w argument
after_awaited (Some p) places c w argument = noted (awaiting places None) p argument

-- the next word of the command line: the value that is awaited, or else an option or a file
unfoldable pub after_word : Places → Command → (w : List ℕ) → (argument : ℕ) → Step
after_word places c w argument = after_awaited places.awaited places c (word_for w) argument

-- the first of places that is not given
abbrev pub missing_of : Places → (needed : List Place) → Verdict
missing_of places [] = fine
missing_of places (p ∷ needed) = cond (is_open places p) (Err (usage.Missing p)) (missing_of places needed)

-- a value that is awaited at the end is missing
abbrev pub lack_by : (awaited : Option Place) → (missing : Verdict) → Verdict
lack_by None missing = missing
lack_by (Some p) missing = Err (usage.NoValue p)

-- what the whole command line lacks: nothing where help is asked for
unfoldable pub lack_of : Places → Command → Verdict
lack_of places c =
    unless (is_open places place.Help) fine
    (lack_by places.awaited (missing_of places (place.Image ∷ more_needed c)))

-- that the value of a place is none that it can have
abbrev pub bad_value_of : Places → (p : Place) → Usage
bad_value_of places p = usage.BadValue p (argument_of places p)

-- which sources are wired is never assumed: a command line to check or to certify lacks nothing only where an argument
-- gives them, or help is asked for
-- proved by wired_is_never_assumed, proofs/NeverAssumed
pub record WiredIsNeverAssumed : Type 0 where
  pub check :
      (places : Places) → lack_of places command.Check ≡ fine → is_open places place.Help ≡ true
      → is_open places place.Wired ≡ false
  pub certify :
      (places : Places) → lack_of places command.Certify ≡ fine → is_open places place.Help ≡ true
      → is_open places place.Wired ≡ false
