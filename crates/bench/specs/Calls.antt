-- Lists of calls on one machine, what they leave, and which sources ask (the customer's demand 3; document 01, "The
-- certificate", last paragraph).
use Rattle.std.specs.Prelude.{ℕ, zero, suc, ◌<◌, ◌≡◌, true, cond, ◌&&◌, List, [], ◌∷◌, ◌++◌, leb, get_or}
use Rattle.isa.specs.Sources.{is_named}
use Rattle.isa.specs.declared.Source.{Source}
use Rattle.machine.specs.declared.Machine.{Machine}
use Rattle.machine.specs.State.{host_store_of, reset_of}
use Rattle.machine.specs.Step.{step_of}
use Rattle.machine.specs.Run.{requests_fit, run_of}
use Rattle.certificate.specs.Check.{check_of, accepted}

-- "any list, in any order, of steps and runs of that image, host stores of any byte at any address, and resets"
pub data Call : Type 0 where
  step : (request : ℕ) → Call
  run : (requests : List ℕ) (n : ℕ) → Call
  store : (address value : ℕ) → Call
  reset : Call

-- "each call gets the machine as the one before left it": the machine as a call leaves it
unfoldable pub leaves : (image : List ℕ) → Call → Machine → Machine
leaves image (step request) m = (step_of image m request).machine
leaves image (run requests n) m = (run_of image m requests n).machine
leaves image (store address value) m = (host_store_of m address value).machine
leaves image reset m = reset_of m

-- "each call gets the machine as the one before left it, nobody else writes it": the machine that a list
-- of calls leaves
abbrev pub leaves_all : (image : List ℕ) → List Call → Machine → Machine
leaves_all image [] m = m
leaves_all image (c ∷ calls) m = leaves_all image calls (leaves image c m)

-- "sets none of bits 0 to 4 but those of wired sources"; bits 5 to 7 are free, and the call is then refused
abbrev pub AsksOnly : (wired request : ℕ) → Type 0
AsksOnly wired request = (s : Source) → is_named request s ≡ true → is_named wired s ≡ true

-- "each of the first n of a run of n steps": "request byte i at step i and none past the lent list's end", where the
-- byte is 0
abbrev pub FirstAskOnly : (wired : ℕ) → (requests : List ℕ) → (n : ℕ) → Type 0
FirstAskOnly wired requests n = (i : ℕ) → i < n → AsksOnly wired (get_or requests i 0)

-- "A step's request byte, and each of the first n of a run of n steps"
abbrev pub CallAsksOnly : (wired : ℕ) → Call → Type 0
CallAsksOnly wired (step request) = AsksOnly wired request
CallAsksOnly wired (run requests n) = FirstAskOnly wired requests n
CallAsksOnly wired (store address value) = Unit {0}
CallAsksOnly wired reset = Unit {0}

-- "at any step any wired sources may ask, and no others"
abbrev pub AllAskOnly : (wired : ℕ) → List Call → Type 0
AllAskOnly wired [] = Unit {0}
AllAskOnly wired (c ∷ calls) = CallAsksOnly wired c × AllAskOnly wired calls

-- "none past the lent list's end": nothing is asked of a run there, since the byte 0 names no source
-- proved by none_asks, proofs/Unrolled
abbrev pub NoneAsks : Type 0
NoneAsks = (wired : ℕ) → AsksOnly wired 0

-- "A run of n steps is n single steps, with request byte i at step i and none past the lent list's end": there
-- the byte is 0
abbrev pub as_steps : (requests : List ℕ) → (n : ℕ) → List Call
as_steps requests zero = []
as_steps requests (suc n) = as_steps requests n ++ (step (get_or requests n 0) ∷ [])

-- a call as steps, host stores and resets; a run refused with 12 or 11 is none of these
abbrev pub unrolled_call : Call → List Call
unrolled_call (step request) = step request ∷ []
unrolled_call (run requests n) = cond (leb n 65535 && requests_fit requests n) (as_steps requests n) []
unrolled_call (store address value) = store address value ∷ []
unrolled_call reset = reset ∷ []

-- a list of calls with its runs as steps, so that the machine after every step is one that a first part of
-- the list leaves
abbrev pub unrolled : List Call → List Call
unrolled [] = []
unrolled (c ∷ calls) = unrolled_call c ++ unrolled calls

-- steps, host stores and resets
abbrev pub AllSingle : List Call → Type 0
AllSingle [] = Unit {0}
AllSingle (run requests n ∷ calls) = ⊥
AllSingle (step request ∷ calls) = AllSingle calls
AllSingle (store address value ∷ calls) = AllSingle calls
AllSingle (reset ∷ calls) = AllSingle calls

-- in a list with its runs as steps there is no run
-- proved by no_runs, proofs/Unrolled
abbrev pub NoRuns : Type 0
NoRuns = (calls : List Call) → AllSingle (unrolled calls)

-- a list of calls as in demand 3 leaves the same machine with its runs as steps, where again only wired sources ask
-- proved by unrolled_leaves, proofs/Unrolled
pub record UnrolledLeaves : Type 0 where
  pub same :
      (image certificate : List ℕ) (wired number : ℕ) → check_of image certificate wired ≡ accepted number
      → (m : Machine) (calls : List Call) → AllAskOnly wired calls
      → leaves_all image (unrolled calls) (reset_of m) ≡ leaves_all image calls (reset_of m)
  pub asks : (wired : ℕ) (calls : List Call) → AllAskOnly wired calls → AllAskOnly wired (unrolled calls)
