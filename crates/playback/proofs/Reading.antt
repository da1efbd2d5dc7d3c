-- Laws of the reading of a body: what is read is what was written, and the reading of a part of a slice.
use Prim.Native.Nat.{ℕ, zero, suc, ◌-◌, ◌≤◌, ◌<◌}
use native.Mathlib.Omega.{arith}
use mathlib.Core.Path.{◌≡◌, refl, sym, ap, ◌∙◌}
use mathlib.Core.Bool.{true, false, false≢true}
use mathlib.Core.List.{List, [], ◌∷◌, ◌++◌}
use lib.ListN.{length, take, drop, get_or, length-drop}
use lib.Seq.{take_all}
use Rattle.std.specs.Prelude.{◌==◌}
use Rattle.std.proofs.lemmas.Bool.{ne_eqb}
use Rattle.isa.specs.Refusals.{Numbered, plain, Answer, done, refused}
use Rattle.playback.specs.declared.Entry.{Entry}
use Rattle.playback.specs.declared.Entry.TheVariants.{Step, Store, Reset}
use Rattle.playback.specs.Entries.{First, entry_bytes, body_bytes, then_read, no_entry, entries_of, is_read, is_body}

-- every list of entries, written, is read as that list
pub read_written : (entries : List Entry) → entries_of (body_bytes entries) ≡ done entries
unfolding entries_of
read_written [] = refl
read_written (Step request ∷ entries) = ap (then_read (Step request)) (read_written entries)
read_written (Store address value ∷ entries) = ap (then_read (Store address value)) (read_written entries)
read_written (Reset ∷ entries) = ap (then_read Reset) (read_written entries)

-- an entry and the writing of what is read after it
after :
    (e : Entry) (rest : List ℕ) (a : Answer (List Entry)) → ((es : List Entry) → a ≡ done es → body_bytes es ≡ rest)
    → (entries : List Entry) → then_read e a ≡ done entries → body_bytes entries ≡ entry_bytes e ++ rest
after e rest (done es) k entries is =
    let same : e ∷ es ≡ entries = cc in
    ap body_bytes (sym same) ∙ ap (λ (bytes : List ℕ). entry_bytes e ++ bytes) (k es refl)
after e rest (refused n) k entries is = cc

unread : {A : Type 0} (entries : List Entry) → no_entry ≡ done entries → A
unread entries is = cc

-- every body that is read is the writing of what was read
pub written_read : (body : List ℕ) (entries : List Entry) → entries_of body ≡ done entries → body_bytes entries ≡ body
unfolding entries_of
written_read [] entries is = let same : [] ≡ entries = cc in ap body_bytes (sym same)
written_read (zero ∷ []) entries is = unread entries is
written_read (zero ∷ request ∷ rest) entries is =
    after (Step request) rest (entries_of rest) (written_read rest) entries is
written_read (suc zero ∷ []) entries is = unread entries is
written_read (suc zero ∷ address ∷ []) entries is = unread entries is
written_read (suc zero ∷ address ∷ value ∷ rest) entries is =
    after (Store address value) rest (entries_of rest) (written_read rest) entries is
written_read (suc (suc zero) ∷ rest) entries is = after Reset rest (entries_of rest) (written_read rest) entries is
written_read (suc (suc (suc kind)) ∷ rest) entries is = unread entries is

-- a body is refused with nothing but 29
twenty_nine : (n : Numbered) → no_entry ≡ refused n → n ≡ plain 29
twenty_nine n is = cc

passed_on :
    (e : Entry) (a : Answer (List Entry)) → ((n : Numbered) → a ≡ refused n → n ≡ plain 29)
    → (n : Numbered) → then_read e a ≡ refused n → n ≡ plain 29
passed_on e (done es) k n is = cc
passed_on e (refused m) k n is = k n is

pub only_29 : (body : List ℕ) (n : Numbered) → entries_of body ≡ refused n → n ≡ plain 29
unfolding entries_of
only_29 [] n is = cc
only_29 (zero ∷ []) n is = twenty_nine n is
only_29 (zero ∷ request ∷ rest) n is = passed_on (Step request) (entries_of rest) (only_29 rest) n is
only_29 (suc zero ∷ []) n is = twenty_nine n is
only_29 (suc zero ∷ address ∷ []) n is = twenty_nine n is
only_29 (suc zero ∷ address ∷ value ∷ rest) n is =
    passed_on (Store address value) (entries_of rest) (only_29 rest) n is
only_29 (suc (suc zero) ∷ rest) n is = passed_on Reset (entries_of rest) (only_29 rest) n is
only_29 (suc (suc (suc kind)) ∷ rest) n is = twenty_nine n is

-- a body is read or not: by its answer
pub not_body : (body : List ℕ) → is_body body ≡ false → entries_of body ≡ no_entry
unfolding is_body
not_body body unread = go (entries_of body) refl unread
  where
    go : (a : Answer (List Entry)) → entries_of body ≡ a → is_read a ≡ false → entries_of body ≡ no_entry
    go (done entries) is unread = absurd (false≢true (sym unread))
    go (refused n) is unread = is ∙ ap refused (only_29 body n is)

pub unread_body : (body : List ℕ) → entries_of body ≡ no_entry → is_body body ≡ false
unfolding is_body
unread_body body is = ap is_read is

-- the rest of a body behind an entry
pub read_after : (e : Entry) (a : Answer (List Entry)) → is_read (then_read e a) ≡ is_read a
read_after e (done entries) = refl
read_after e (refused n) = refl

-- What a body begins with, by its first byte and its length.
pub leads_step :
    (body : List ℕ) → get_or body 0 0 ≡ 0 → 2 ≤ length body → First body (Step (get_or body 1 0)) 2
unfolding entries_of
leads_step [] kind long = absurd (omega arith)
leads_step (k ∷ []) kind long = absurd (omega arith)
leads_step (k ∷ request ∷ rest) kind long = record { is = refl; some = omega arith; fits = long; reads = rw kind }

pub leads_store :
    (body : List ℕ) → get_or body 0 0 ≡ 1 → 3 ≤ length body →
    First body (Store (get_or body 1 0) (get_or body 2 0)) 3
unfolding entries_of
leads_store [] kind long = absurd (omega arith)
leads_store (k ∷ []) kind long = absurd (omega arith)
leads_store (k ∷ a ∷ []) kind long = absurd (omega arith)
leads_store (k ∷ address ∷ value ∷ rest) kind long = record { is = refl; some = omega arith; fits = long; reads = rw kind }

pub leads_reset : (body : List ℕ) → get_or body 0 0 ≡ 2 → 1 ≤ length body → First body Reset 1
unfolding entries_of
leads_reset [] kind long = absurd (omega arith)
leads_reset (k ∷ rest) kind long = record { is = refl; some = omega arith; fits = long; reads = rw kind }

pub leads_none :
    (body : List ℕ) → (get_or body 0 0 ≡ 0 → 2 ≤ length body → ⊥) → (get_or body 0 0 ≡ 1 → 3 ≤ length body → ⊥) →
    (get_or body 0 0 ≡ 2 → 1 ≤ length body → ⊥) → 0 < length body → entries_of body ≡ no_entry
unfolding entries_of
leads_none [] step store reset some = absurd (omega arith)
leads_none (zero ∷ []) step store reset some = refl
leads_none (zero ∷ request ∷ rest) step store reset some = absurd (step refl (omega arith))
leads_none (suc zero ∷ []) step store reset some = refl
leads_none (suc zero ∷ address ∷ []) step store reset some = refl
leads_none (suc zero ∷ address ∷ value ∷ rest) step store reset some = absurd (store refl (omega arith))
leads_none (suc (suc zero) ∷ rest) step store reset some = absurd (reset refl (omega arith))
leads_none (suc (suc (suc kind)) ∷ rest) step store reset some = refl

-- a part to the end of a slice
pub to_end :
    (body : List ℕ) (size : ℕ) → size ≤ length body → take (length body - size) (drop size body) ≡ drop size body
to_end body size fits =
    let same = length-drop size body in
    take_all (length body - size) (drop size body) (omega (arith, same))

-- the rest of a body is read where the whole is
pub rest_body : (body : List ℕ) (e : Entry) (size : ℕ) → First body e size → is_body (drop size body) ≡ is_body body
unfolding is_body
rest_body body e size first =
    sym (ap is_read first.reads ∙ read_after e (entries_of (drop size body)))

-- a body that is empty or begins with no entry is entries to its end where it is empty
pub none_body :
    (body : List ℕ) → (0 < length body → entries_of body ≡ no_entry) → is_body body ≡ (length body == 0)
unfolding is_body entries_of
none_body [] none = refl
none_body (byte ∷ rest) none = ap is_read (none (omega arith)) ∙ sym (ne_eqb _ _ (omega arith))

pub read_none :
    (body : List ℕ) → (0 < length body → entries_of body ≡ no_entry) → is_body body ≡ true → entries_of body ≡ done []
unfolding is_body entries_of
read_none [] none reads = refl
read_none (byte ∷ rest) none reads = absurd (false≢true (ap is_read (sym (none (omega arith))) ∙ reads))
