-- The command line, word by word: which argument gives what, or what is wrong with it. Places go by number, in a list;
-- CommandLine has the same by name.
use Rattle.std.specs.Prelude.{ℕ, ◌≡◌, Bool, true, false, cond, ◌||◌, List, [], ◌∷◌, eqb, ltb, get_or, set, Option, None, Some, Result, Ok, Err}
use Rattle.isa.specs.Refusals.{unless}
use Rattle.options.specs.declared.Command.{Command}
use Rattle.options.specs.declared.Command.TheVariants as command
use Rattle.options.specs.declared.by_number.Usage.{Usage}
use Rattle.options.specs.declared.by_number.Usage.TheVariants as usage
use Rattle.options.specs.declared.words.Word.{Word}
use Rattle.options.specs.declared.words.Word.TheVariants as word
use Rattle.options.specs.Places as place
use Rattle.options.specs.Places.{number_of}
use Rattle.options.specs.Words.{word_for}

-- a place is one of some
abbrev pub is_among : (p : ℕ) → (places : List ℕ) → Bool
is_among p [] = false
is_among p (q ∷ rest) = eqb p q || is_among p rest

-- the options that every command has
abbrev pub common_options : List ℕ
common_options = place.rom ∷ place.fill ∷ place.raw ∷ place.quiet ∷ place.help ∷ []

-- the options of a command beside them
abbrev pub options_of : Option Command → List ℕ
options_of (Some command.Check) = place.wired ∷ place.marks ∷ []
options_of (Some command.Certify) = place.wired ∷ place.output ∷ []
options_of (Some command.List) = place.wired ∷ place.marks ∷ []
options_of (Some command.Trace) = place.steps ∷ place.request ∷ []
options_of (Some command.Size) = place.marks ∷ place.count ∷ []
options_of (Some command.Play) = []
options_of (Some command.Help) = []
options_of (Some command.Version) = []
options_of None = []

-- a command has an option
unfoldable pub has_option : Option Command → (p : ℕ) → Bool
has_option c p = is_among p common_options || is_among p (options_of c)

-- the files of a command after the image: to play, the record
abbrev pub more_files : Option Command → List ℕ
more_files (Some command.Check) = []
more_files (Some command.Certify) = []
more_files (Some command.List) = []
more_files (Some command.Trace) = []
more_files (Some command.Size) = []
more_files (Some command.Play) = place.session ∷ []
more_files (Some command.Help) = []
more_files (Some command.Version) = []
more_files None = []

-- what a command needs beside the image, in order
abbrev pub more_needed : Option Command → List ℕ
more_needed (Some command.Check) = place.wired ∷ []
more_needed (Some command.Certify) = place.wired ∷ place.output ∷ []
more_needed (Some command.List) = []
more_needed (Some command.Trace) = place.steps ∷ []
more_needed (Some command.Size) = place.count ∷ []
more_needed (Some command.Play) = place.session ∷ []
more_needed (Some command.Help) = []
more_needed (Some command.Version) = []
more_needed None = []

-- what is wrong, or that all is fine
abbrev pub Verdict : Type 0
Verdict = Result (Unit {0}) Usage

abbrev pub fine : Verdict
fine = Ok tt

-- where a word leads: the verdict, and the places after it
pub data Step : Type 0 where
  step : (v : Verdict) (places : List ℕ) → Step

-- the argument that gives a place, 0 where none does
abbrev pub argument_of : (places : List ℕ) → (p : ℕ) → ℕ
argument_of places p = get_or places p 0

-- no argument gives a place
abbrev pub is_open : (places : List ℕ) → (p : ℕ) → Bool
is_open places p = eqb (argument_of places p) 0

-- an argument gives a place: only requests may be given more than once
unfoldable pub noted : (places : List ℕ) → (p argument : ℕ) → Step
noted places p argument =
    unless (ltb p place.size) (step (Err (usage.UnknownOption argument)) places)
    (unless (eqb p place.request || is_open places p) (step (Err (usage.Twice p)) places)
    (step fine (set places p argument)))

-- a file's name gives the first of the files that is still open
abbrev pub noted_file : (places : List ℕ) → (files : List ℕ) → (argument : ℕ) → Step
noted_file places [] argument = step (Err (usage.TooManyFiles argument)) places
noted_file places (file ∷ files) argument =
    cond (is_open places file) (step fine (set places file argument)) (noted_file places files argument)

-- an option gives its place, or has the next word give it
unfoldable pub noted_option : (places : List ℕ) → Option Command → (p argument : ℕ) → (has_value : Bool) → Step
noted_option places c p argument has_value =
    unless (has_option c p) (step (Err (usage.Unfit p)) places)
    (cond has_value (step fine (set places place.awaited p)) (noted places p argument))

-- a word that is no awaited value, by what it is
abbrev pub after_kind : (places : List ℕ) → Option Command → Option Word → (argument : ℕ) → Step
after_kind places c (Some (word.Flag p)) argument = noted_option places c (number_of p) argument false
after_kind places c (Some (word.Valued p)) argument = noted_option places c (number_of p) argument true
after_kind places c (Some word.File) argument = noted_file places (place.image ∷ more_files c) argument
after_kind places c None argument = step (Err (usage.UnknownOption argument)) places

-- the next word of the command line: the value that is awaited, whatever it looks like; or else an option or a file
unfoldable pub after_word : (places : List ℕ) → Option Command → (w : List ℕ) → (argument : ℕ) → Step
after_word places c w argument =
    cond (is_open places place.awaited) (after_kind places c (word_for w) argument)
    (noted (set places place.awaited 0) (argument_of places place.awaited) argument)

-- the first of places that is not given
abbrev pub missing_of : (places : List ℕ) → (needed : List ℕ) → Verdict
missing_of places [] = fine
missing_of places (p ∷ needed) = cond (is_open places p) (Err (usage.Missing p)) (missing_of places needed)

-- what the whole command line lacks: nothing where help is asked for
unfoldable pub lack_of : (places : List ℕ) → Option Command → Verdict
lack_of places c =
    unless (is_open places place.help) fine
    (unless (is_open places place.awaited) (Err (usage.NoValue (argument_of places place.awaited)))
    (missing_of places (place.image ∷ more_needed c)))

-- that the value of a place is none that it can have
abbrev pub bad_value_of : (places : List ℕ) → (p : ℕ) → Usage
bad_value_of places p =
    unless (ltb p place.size) (usage.UnknownOption p) (usage.BadValue p (argument_of places p))

-- which sources are wired is never assumed: a command line to check or to certify lacks nothing only where an argument
-- gives them, or help is asked for
-- proved by wired_is_never_assumed_by_number, proofs/NeverAssumed
pub record WiredIsNeverAssumed : Type 0 where
  pub check :
      (places : List ℕ) → lack_of places (Some command.Check) ≡ fine → is_open places place.help ≡ true
      → is_open places place.wired ≡ false
  pub certify :
      (places : List ℕ) → lack_of places (Some command.Certify) ≡ fine → is_open places place.help ≡ true
      → is_open places place.wired ≡ false
