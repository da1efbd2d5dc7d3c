-- The entries of a record's body, their bytes, and the reading of them (document 02, W-206). The claim is
-- `RecordsReadBack`, in Record.
use Rattle.std.specs.Prelude.{ℕ, zero, suc, ◌≤◌, ◌<◌, ◌≡◌, Bool, true, false, List, [], ◌∷◌, ◌++◌, length, drop, Option, Some, None}
use Rattle.isa.specs.Refusals.{plain, Answer, done, refused}
use Rattle.playback.specs.declared.Entry.{Entry}
use Rattle.playback.specs.declared.Entry.TheVariants.{Step, Store, Reset}

-- "0 and a request byte is a step, 1 with address and value is a host store, 2 is a reset"
abbrev pub entry_bytes : Entry → List ℕ
entry_bytes (Step request) = 0 ∷ request ∷ []
entry_bytes (Store address value) = 1 ∷ address ∷ value ∷ []
entry_bytes Reset = 2 ∷ []

-- "then entries": the bytes of a list of entries, one after the other
abbrev pub body_bytes : List Entry → List ℕ
body_bytes [] = []
body_bytes (e ∷ entries) = entry_bytes e ++ body_bytes entries

-- an entry, then those that are read after it
abbrev pub then_read : Entry → Answer (List Entry) → Answer (List Entry)
then_read e (done entries) = done (e ∷ entries)
then_read e (refused r) = refused r

-- "29 for an unknown or cut entry"
abbrev pub no_entry : Answer (List Entry)
no_entry = refused (plain 29)

-- the entries of a body, each by its first byte; a step of one byte and a store of one or two are cut, and first bytes
-- from 3 on are unknown
unfoldable pub entries_of : (body : List ℕ) → Answer (List Entry)
entries_of [] = done []
entries_of (zero ∷ []) = no_entry
entries_of (zero ∷ request ∷ rest) = then_read (Step request) (entries_of rest)
entries_of (suc zero ∷ []) = no_entry
entries_of (suc zero ∷ address ∷ []) = no_entry
entries_of (suc zero ∷ address ∷ value ∷ rest) = then_read (Store address value) (entries_of rest)
entries_of (suc (suc zero) ∷ rest) = then_read Reset (entries_of rest)
entries_of (suc (suc (suc kind)) ∷ rest) = no_entry

-- What the functions inside the crate promise; no claim uses it.

-- whether a body is entries to its end
abbrev pub is_read : Answer (List Entry) → Bool
is_read (done entries) = true
is_read (refused r) = false

unfoldable pub is_body : (body : List ℕ) → Bool
is_body body = is_read (entries_of body)

-- a body begins with an entry, which has so many bytes, and the rest of it is read after that
pub record First (body : List ℕ) (e : Entry) (size : ℕ) : Type 0 where
  pub is : size ≡ length (entry_bytes e)
  pub some : 0 < size
  pub fits : size ≤ length body
  pub reads : entries_of body ≡ then_read e (entries_of (drop size body))

-- a body begins with an entry; or it is empty or begins with none
abbrev pub Leads : (body : List ℕ) → Option (Entry × ℕ) → Type 0
Leads body (Some (e, size)) = First body e size
Leads body None = 0 < length body → entries_of body ≡ no_entry
