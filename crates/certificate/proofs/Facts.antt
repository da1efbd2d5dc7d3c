-- Facts that several proofs cite: marks, tests, an image's length.
use Prim.Native.Nat.{ℕ, zero, suc, ◌+◌, ◌-◌, ◌≤◌, ◌<◌, ◌/◌, ◌%◌}
use native.Mathlib.Omega.{arith}
use mathlib.Core.Bool.{Bool, true, false, cond, ◌&&◌}
use mathlib.Core.Logic.{◌≢◌}
use borrow.Author.Tests.{leb-true, le-leb, lt-ltb}
use mathlib.Core.Path.{◌≡◌, refl}
use mathlib.Core.List.{List}
use lib.Dec.{ltb, leb, eqb}
use lib.ListN.{length, get_or}
use Rattle.isa.specs.Decode as decode
use Rattle.isa.specs.Decode.{Decoding, decode_at}
use Rattle.isa.specs.FlowAt as flow_at
use Rattle.isa.specs.FlowAt.{Continuing, continuation_from}
use Rattle.isa.specs.Refusals.{Numbered, located, Answer, done, refused, unless}
use Rattle.certificate.specs.Marks.{mark_at, WellFormed, kind_of, lowest}
use Rattle.certificate.specs.Findings.{Found, passes, fault, and_then}
use Rattle.certificate.specs.Check.{flow_found, decoded_found, pages_found, mark_found, marks_in}
use Rattle.certificate.specs.Passes.{page_found}

-- a marked address: 14, then what decoding answers
pub marked : (image certificate : List ℕ) (pages a mark : ℕ) → mark ≢ 0
    → mark_found image certificate pages a mark
    ≡ unless (ltb 0 (kind_of mark)) (fault (located 14 a)) (pages_found image certificate a mark pages)
unfolding mark_found
marked image certificate pages a zero n = absurd (n refl)
marked image certificate pages a (suc m) n = refl

-- .. with one page
pub marked_page : (program certificate : List ℕ) (a mark : ℕ) → mark ≢ 0
    → page_found program certificate a mark
    ≡ unless (ltb 0 (kind_of mark)) (fault (located 14 a)) (decoded_found certificate a mark (decode_at program a))
unfolding page_found
marked_page program certificate a zero n = absurd (n refl)
marked_page program certificate a (suc m) n = refl

-- what decoding answers is found by where its instruction continues alone
abbrev pub continuation_found : List ℕ → (a mark : ℕ) → Answer Continuing → Found
continuation_found certificate a mark (done (flow_at.goes f next)) = flow_found certificate a mark f next
continuation_found certificate a mark (refused refusal) = fault refusal

pub by_continuation : (certificate : List ℕ) (a mark : ℕ) (answer : Answer Decoding)
    → decoded_found certificate a mark answer ≡ continuation_found certificate a mark (continuation_from a answer)
unfolding decoded_found
by_continuation certificate a mark (done (decode.instruction i bytes cycles)) = refl
by_continuation certificate a mark (refused refusal) = refl

-- a finding does not both pass and fail
pub not_both : {r : Numbered} → fault r ≡ passes → ⊥
not_both e = let z : ◌≡◌ {A = ℕ} 0 1 = cc in omega arith

-- a test that passes
pub unless_passes : (t : Bool) (r : Numbered) (more : Found) → unless t (fault r) more ≡ passes
    → (t ≡ true) × (more ≡ passes)
unless_passes true r more e = (refl, e)
unless_passes false r more e = absurd (not_both e)

-- two parts that pass
pub both_pass : (f g : Found) → and_then f g ≡ passes → (f ≡ passes) × (g ≡ passes)
both_pass passes g e = (refl, e)
both_pass (fault r) g e = absurd (not_both e)

-- a mark has a kind exactly when it is well formed, and that is its high digit
pub well_formed_lem : (mark : ℕ) → 1 ≤ kind_of mark → WellFormed mark
well_formed_lem mark h = go (leb (mark / 16) 4) (leb (mark % 16) 6) refl refl h
  where
    go : (s t : Bool) → leb (mark / 16) 4 ≡ s → leb (mark % 16) 6 ≡ t → 1 ≤ cond (s && t) (mark / 16) 0
        → WellFormed mark
    go true true p q h = record { kind_least = h; kind_most = leb-true _ _ p; need_most = leb-true _ _ q }
    go true false p q h = absurd (omega arith)
    go false t p q h = absurd (omega arith)

pub kind_of_lem : (mark : ℕ) → WellFormed mark → kind_of mark ≡ mark / 16
kind_of_lem mark w = rw (le-leb _ _ w.kind_most, le-leb _ _ w.need_most)

-- the mark of the i-th ROM byte
pub mark_is : (certificate : List ℕ) (i : ℕ) → length certificate ≤ 4096 → i < length certificate
    → mark_at certificate (lowest certificate + i) ≡ get_or certificate i 0
unfolding mark_at
mark_is certificate i fits h =
    let below : lowest certificate + i < 4096 = omega arith in
    let above : 4096 ≤ lowest certificate + i + length certificate = omega arith in
    let back : lowest certificate + i + length certificate - 4096 ≡ i = omega arith in
    rw (lt-ltb _ _ below, le-leb _ _ above, back)

-- a certificate's length
pub at_most_4096 : (n : ℕ) → marks_in n ≤ 4096
at_most_4096 n = by_test (eqb n 2048)
  where
    by_test : (b : Bool) → cond b 2048 4096 ≤ 4096
    by_test true = omega arith
    by_test false = omega arith
