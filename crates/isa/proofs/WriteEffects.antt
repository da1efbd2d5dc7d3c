-- What writing answers and does to the buffer, by the three lengths and the refusal.
use mathlib.Core.Path.{◌≡◌, refl, ◌∙◌}
use mathlib.Core.Bool.{Bool, true, false, cond}
use mathlib.Core.List.{List, ◌++◌}
use Prim.Native.Nat.{ℕ, ◌<◌, ◌≤◌}
use native.Mathlib.Omega.{arith}
use borrow.Author.Tests.{le-leb, lt-leb}
use lib.Dec.{leb}
use lib.ListN.{length, take, drop}
use lib.Seq.{take_at, drop_at}
use Rattle.isa.specs.Refusals.{Numbered, plain, Answer, done, refused}
use Rattle.isa.specs.Write.{outcome, buffer_after}
use Rattle.isa.specs.Encode.{bytes}
use Rattle.isa.specs.WriteEffects.{WriteEffects}
use Rattle.isa.specs.declared.Encoded.{Encoded}
use Rattle.std.specs.Prelude.{Option, Some, None}

-- bytes that fit or not, by the test
module _ (bs buffer : List ℕ) where
  abbrev answer : Bool → Answer ℕ
  answer b = cond b (done (length bs)) (refused (plain 9))

  abbrev after : Bool → List ℕ
  after b = cond b (bs ++ drop (length bs) buffer) buffer

  kept : (b : Bool) (r : Numbered) → answer b ≡ refused r → after b ≡ buffer
  kept true r q = cc
  kept false r q = refl

  first : (b : Bool) (n : ℕ) → answer b ≡ done n → take n (after b) ≡ bs
  first true n q = take_at bs (drop (length bs) buffer) n (cc)
  first false n q = cc

  rest : (b : Bool) (n : ℕ) → answer b ≡ done n → drop n (after b) ≡ drop n buffer
  rest true n q = let e : length bs ≡ n = cc in drop_at bs (drop (length bs) buffer) n e ∙ rw e
  rest false n q = cc

too_short : (e : Option Encoded) (size : ℕ) → size < length (bytes e) → outcome e size ≡ refused (plain 9)
unfolding outcome
too_short (Some e) size h = rw (lt-leb (length (bytes (Some e))) size h)
too_short None size h = absurd (omega arith)

fits : (e : Option Encoded) (size : ℕ) → (e ≡ None → ⊥) → length (bytes e) ≤ size
    → outcome e size ≡ done (length (bytes e))
unfolding outcome
fits (Some e) size n h = rw (le-leb (length (bytes (Some e))) size h)
fits None size n h = absurd (n refl)

untouched : (e : Option Encoded) (buffer : List ℕ) (r : Numbered) → outcome e (length buffer) ≡ refused r
    → buffer_after e buffer ≡ buffer
unfolding outcome buffer_after
untouched (Some e) buffer r q = kept (bytes (Some e)) buffer (leb (length (bytes (Some e))) (length buffer)) r q
untouched None buffer r q = rw (le-leb 0 (length buffer) (omega arith))

from_first : (e : Option Encoded) (buffer : List ℕ) (n : ℕ) → outcome e (length buffer) ≡ done n
    → take n (buffer_after e buffer) ≡ bytes e
unfolding outcome buffer_after
from_first (Some e) buffer n q = first (bytes (Some e)) buffer (leb (length (bytes (Some e))) (length buffer)) n q
from_first None buffer n q = cc

others_stay :
    (e : Option Encoded) (buffer : List ℕ) (n : ℕ) → outcome e (length buffer) ≡ done n
    → drop n (buffer_after e buffer) ≡ drop n buffer
unfolding outcome buffer_after
others_stay (Some e) buffer n q = rest (bytes (Some e)) buffer (leb (length (bytes (Some e))) (length buffer)) n q
others_stay None buffer n q = cc

pub write_effects : WriteEffects
unfolding outcome
write_effects =
    record {
      beyond = λ size. refl;
      too_short = too_short;
      fits = fits;
      untouched = untouched;
      from_first = from_first;
      others_stay = others_stay;
    }
