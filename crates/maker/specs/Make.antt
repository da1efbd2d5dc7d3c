-- What the maker answers (document 02, W-202).
use Rattle.std.specs.Prelude.{ℕ, ◌≡◌, ◌≢◌, List, [], ◌∷◌, length}
use Rattle.certificate.specs.Check.{marks_in}
use Rattle.isa.specs.Refusals.{plain, Answer, done, refused}
use Rattle.certificate.specs.Refusals.{Question, asks, FirstApplies, None, image_length, unknown_source}
use Rattle.maker.specs.Least.{NoneAccepted, Least}

-- "25 when the buffer isn't the image's length"
abbrev pub buffer_length : (image buffer : List ℕ) → Question
buffer_length image buffer = asks (plain 25) (length buffer ≢ marks_in (length image))

-- "26 exactly when no certificate would be accepted"
abbrev pub no_certificate : (image : List ℕ) → (wired : ℕ) → Question
no_certificate image wired = asks (plain 26) (NoneAccepted image wired)

-- "It refuses with 1, then 11, then 25 .., then 26 .."
abbrev pub questions : (image : List ℕ) → (wired : ℕ) → (buffer : List ℕ) → List Question
questions image wired buffer =
    image_length image ∷ unknown_source wired ∷ buffer_length image buffer ∷ no_certificate image wired ∷ []

-- done where none of them applies, and the buffer then holds the least certificate; else the first that applies, and
-- the buffer holds what it held. No choice is left to the program: there is one such answer, with one such buffer
-- (`OneAnswer`)
abbrev pub Makes : (image : List ℕ) → (wired : ℕ) → (before after : List ℕ) → Answer ℕ → Type 0
Makes image wired before after (done levels) = None (questions image wired before) × Least image wired after levels
Makes image wired before after (refused r) = FirstApplies (questions image wired before) r × (after ≡ before)

-- once nothing but 26 can apply: the least certificate, or that there is none
abbrev pub Completed : (image : List ℕ) → (wired : ℕ) → (certificate : List ℕ) → Answer ℕ → Type 0
Completed image wired certificate (done levels) = Least image wired certificate levels
Completed image wired certificate (refused r) = NoneAccepted image wired × (r ≡ plain 26)
