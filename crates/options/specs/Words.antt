-- The words of a command line: commands and options by their names.
use Rattle.std.specs.Prelude.{ℕ, ◌≡◌, Bool, true, cond, List, [], ◌∷◌, eqb, codes, Option, None, Some}
use Rattle.std.specs.Str.{bytes_eq}
use Rattle.options.specs.declared.places.Place.{Place}
use Rattle.options.specs.declared.places.Place.TheVariants as place
use Rattle.options.specs.declared.Command.{Command}
use Rattle.options.specs.declared.Command.TheVariants as command
use Rattle.options.specs.declared.words.Word.{Word}
use Rattle.options.specs.declared.words.Word.TheVariants as word

-- two words are the same, letter by letter
abbrev pub same : (a b : List ℕ) → Bool
same = bytes_eq

-- words are the same exactly where they are equal
-- proved by same_is_equal, proofs/WordLaws
pub record SameIsEqual : Type 0 where
  pub equal : (a b : List ℕ) → same a b ≡ true → a ≡ b
  pub itself : (a : List ℕ) → same a a ≡ true

-- what a name stands for
pub data Named (A : Type 0) : Type 0 where
  named : (name : List ℕ) → A → Named A

-- what a word stands for in a table of names
abbrev pub look_up : {A : Type 0} → List (Named A) → (word : List ℕ) → Option A
look_up [] w = None
look_up (named name meaning ∷ rest) w = cond (same w name) (Some meaning) (look_up rest w)

-- the commands by name; every other word is none
unfoldable pub command_named : (word : List ℕ) → Option Command
command_named =
    look_up
    (named (codes "check") command.Check
    ∷ named (codes "certify") command.Certify
    ∷ named (codes "list") command.List
    ∷ named (codes "trace") command.Trace
    ∷ named (codes "size") command.Size
    ∷ named (codes "play") command.Play
    ∷ named (codes "--help") command.Help
    ∷ named (codes "--version") command.Version
    ∷ [])

-- the options with a value, by their places; none for a word that is none
unfoldable pub valued_named : (word : List ℕ) → Option Place
valued_named =
    look_up
    (named (codes "--wired") place.Wired
    ∷ named (codes "--marks") place.Marks
    ∷ named (codes "-o") place.Output
    ∷ named (codes "--steps") place.Steps
    ∷ named (codes "--request") place.Request
    ∷ named (codes "--count") place.Count
    ∷ named (codes "--rom") place.Rom
    ∷ named (codes "--fill") place.Fill
    ∷ [])

-- .. and those without
unfoldable pub flag_named : (word : List ℕ) → Option Place
flag_named =
    look_up
    (named (codes "--raw") place.Raw
    ∷ named (codes "--quiet") place.Quiet
    ∷ named (codes "--help") place.Help
    ∷ [])

-- a word that is no option: a file's name, unless it is empty or begins with a hyphen
abbrev pub other_word : (word : List ℕ) → Option Word
other_word [] = None
other_word (letter ∷ rest) = cond (eqb letter 0x2D) None (Some word.File)

-- an option's place, with a value or without one, or else another word
abbrev pub word_by : (valued flag : Option Place) → (other : Option Word) → Option Word
word_by (Some p) flag other = Some (word.Valued p)
word_by None (Some p) other = Some (word.Flag p)
word_by None None other = other

-- what a word after the command's name is
unfoldable pub word_for : (word : List ℕ) → Option Word
word_for w = word_by (valued_named w) (flag_named w) (other_word w)
