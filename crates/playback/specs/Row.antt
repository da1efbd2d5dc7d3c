-- Steps in a row, which are one run: what the functions inside the crate promise; no claim uses it.
use Rattle.std.specs.Prelude.{ℕ, zero, suc, ◌*◌, ◌≤◌, ◌<◌, ◌≡◌, true, List, length, drop, get_or}
use Rattle.isa.specs.Refusals.{Answer, done, refused}
use Rattle.isa.specs.Sources.{names_only_sources}
use Rattle.machine.specs.declared.Machine.{Machine}
use Rattle.playback.specs.declared.Entry.{Entry}
use Rattle.playback.specs.declared.Entry.TheVariants.{Step}
use Rattle.playback.specs.Entries.{First, then_read, entries_of}
use Rattle.playback.specs.Play.{Playing, play_from}

-- what is read is played from a machine on, after some entries with their cycles
abbrev pub played_from : (image : List ℕ) → (entries cycles : ℕ) → Machine → Answer (List Entry) → Answer Playing
played_from image n cycles m (done entries) = done (play_from image n cycles m entries)
played_from image n cycles m (refused why) = refused why

-- a body begins with a step
abbrev pub Begins : (body : List ℕ) → (request : ℕ) → Type 0
Begins body request = First body (Step request) 2

-- a step begins there, and names nothing but sources
pub record StepAt (body : List ℕ) (at request : ℕ) : Type 0 where
  pub within : at ≤ length body
  pub begins : Begins (drop at body) request
  pub names : names_only_sources request ≡ true

-- the steps of the first so many requests are read, and then the rest
unfoldable pub steps_read : (requests : List ℕ) → (count : ℕ) → Answer (List Entry) → Answer (List Entry)
steps_read requests zero rest = rest
steps_read requests (suc n) rest = steps_read requests n (then_read (Step (get_or requests n 0)) rest)

-- the requests of the step that a body begins with and of steps in a row after it, of which each names only sources
pub record Gathered (body requests : List ℕ) (count : ℕ) : Type 0 where
  pub some : 0 < count
  pub most : count ≤ 4096
  pub within : 2 * count ≤ length body
  pub fit : (k : ℕ) → 0 < k → k < count → names_only_sources (get_or requests k 0) ≡ true
  pub reads : entries_of body ≡ steps_read requests count (entries_of (drop (2 * count) body))
