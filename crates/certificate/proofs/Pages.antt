-- Passes with one page each, over the marks before the first fault that was found, find what the check finds by address
-- and then by page.
use Prim.Native.Nat.{ℕ, zero, suc, ◌+◌, ◌≤◌, ◌<◌}
use native.Mathlib.Nat.{add-zero}
use native.Mathlib.Omega.{arith}
use mathlib.Core.Path.{◌≡◌, refl, sym}
use mathlib.Core.Bool.{Bool, true, false}
use mathlib.Core.List.{List, [], ◌∷◌}
use borrow.Author.Count.{below_more}
use borrow.Author.Tests.{ltb-true, ltb-false}
use lib.Dec.{ltb}
use lib.ListN.{length, get_or}
use Rattle.isa.specs.Decode.{decode_at}
use Rattle.isa.specs.Rom.{space_of}
use Rattle.isa.specs.Refusals.{Numbered, located, unless}
use Rattle.certificate.specs.Marks.{kind_of, lowest}
use Rattle.certificate.specs.Findings.{Found, passes, fault, and_then}
use Rattle.certificate.specs.Check.{decoded_found, pages_found, mark_found, marks_found}
use Rattle.certificate.specs.Passes.{page_found, Searched}
use Rattle.certificate.proofs.Facts.{not_both, unless_passes, both_pass}

-- one mark, with each page
module _ (image certificate : List ℕ) (a : ℕ) where
  -- what a page finds at a marked address
  abbrev At : (mark page : ℕ) → Found
  At mark page = decoded_found certificate a mark (decode_at (space_of image page) a)

  pub pages_pass : (mark n : ℕ) → ((j : ℕ) → j < n → At mark j ≡ passes)
      → pages_found image certificate a mark n ≡ passes
  unfolding pages_found
  pages_pass m zero each = refl
  pages_pass m (suc n) each = rw (pages_pass m n (λ j h. each j (omega arith)), each n (omega arith))

  pub each_page : (mark n : ℕ) → pages_found image certificate a mark n ≡ passes → (j : ℕ) → j < n → At mark j ≡ passes
  unfolding pages_found
  each_page mark zero e j h = absurd (omega arith)
  each_page mark (suc n) e j h =
      let both = both_pass (pages_found image certificate a mark n) (At mark n) e in
      below_suc n (each_page mark n both.0) both.1 j h
    where
      below_suc : (n : ℕ) → ((j : ℕ) → j < n → At mark j ≡ passes) → At mark n ≡ passes → (j : ℕ) → j < suc n
          → At mark j ≡ passes
      below_suc n all last j h = below_more (λ i. At mark i ≡ passes) n all last j (omega arith)

  pages_stop : (m n page : ℕ) (r : Numbered) → page < n → At m page ≡ fault r
      → ((j : ℕ) → j < page → At m j ≡ passes) → pages_found image certificate a m n ≡ fault r
  unfolding pages_found
  pages_stop m zero page r h stops clear = absurd (omega arith)
  pages_stop m (suc n) page r h stops clear =
      by_last (λ l. pages_stop m n page r l stops clear) (ltb page n) refl
    where
      by_last : (page < n → pages_found image certificate a m n ≡ fault r) → (b : Bool) → ltb page n ≡ b
          → and_then (pages_found image certificate a m n) (At m n) ≡ fault r
      by_last before true e = rw (before (ltb-true page n e))
      by_last before false e =
          let last : page ≡ n = omega (arith, ltb-false page n e) in
          rw (pages_pass m n (λ j l. clear j (omega arith)), ← last, stops)

  -- 14 is the same with every page
  marked_passes : (m : ℕ) (t : Bool) (f : Found) → unless t (fault (located 14 a)) f ≡ passes → t ≡ true
  marked_passes m true f e = refl
  marked_passes m false f e = absurd (not_both e)

  pub mark_passes : (n mark : ℕ)
      → ((j : ℕ) → j < suc n → page_found (space_of image j) certificate a mark ≡ passes)
      → mark_found image certificate (suc n) a mark ≡ passes
  unfolding page_found mark_found
  mark_passes n zero each = refl
  mark_passes n (suc m) each =
      let test : ltb 0 (kind_of (suc m)) ≡ true = marked_passes m (ltb 0 (kind_of (suc m))) _ (each 0 (omega arith)) in
      rw test
      (pages_pass (suc m) (suc n)
      (λ j h. (unless_passes (ltb 0 (kind_of (suc m))) (located 14 a) _ (each j h)).1))

  pub mark_stops : (n mark page : ℕ) (r : Numbered) → page < suc n
      → page_found (space_of image page) certificate a mark ≡ fault r
      → ((j : ℕ) → j < page → page_found (space_of image j) certificate a mark ≡ passes)
      → mark_found image certificate (suc n) a mark ≡ fault r
  unfolding page_found mark_found
  mark_stops n zero page r h stops clear = absurd (not_both (sym stops))
  mark_stops n (suc m) page r h stops clear = by_test (ltb 0 (kind_of (suc m))) refl stops
    where
      by_test : (t : Bool) → ltb 0 (kind_of (suc m)) ≡ t → unless t (fault (located 14 a)) (At (suc m) page) ≡ fault r
          → unless t (fault (located 14 a)) (pages_found image certificate a (suc m) (suc n)) ≡ fault r
      by_test true e s =
          pages_stop (suc m) (suc n) page r h s
          (λ j l. (unless_passes (ltb 0 (kind_of (suc m))) (located 14 a) _ (clear j l)).1)
      by_test false e s = s

-- the marks of a part: the first fault
first_fault : (image certificate : List ℕ) (pages a : ℕ) (marks : List ℕ) (i : ℕ) (r : Numbered) → i < length marks
    → ((j : ℕ) → j < i → mark_found image certificate pages (a + j) (get_or marks j 0) ≡ passes)
    → mark_found image certificate pages (a + i) (get_or marks i 0) ≡ fault r
    → marks_found image certificate pages a marks ≡ fault r
unfolding marks_found
first_fault image certificate pages a [] i r h before here = absurd (omega arith)
first_fault image certificate pages a (m ∷ marks) zero r h before here =
    let first : mark_found image certificate pages a m ≡ fault r = rw add-zero at here in
    rw first
first_fault image certificate pages a (m ∷ marks) (suc i) r h before here =
    let first : mark_found image certificate pages a m ≡ passes = rw add-zero at (before 0 (omega arith)) in
    rw first
    (first_fault image certificate pages (suc a) marks i r (omega arith)
    (λ j l. rw (← shift j) (before (suc j) (omega arith))) (rw (← shift i) here))
  where
    shift : (j : ℕ) → a + suc j ≡ suc a + j
    shift j = omega arith

-- all marks of a part pass, so the part does
pub all_pass : (image certificate : List ℕ) (pages a : ℕ) (marks : List ℕ)
    → ((i : ℕ) → i < length marks → mark_found image certificate pages (a + i) (get_or marks i 0) ≡ passes)
    → marks_found image certificate pages a marks ≡ passes
unfolding marks_found
all_pass image certificate pages a [] each = refl
all_pass image certificate pages a (m ∷ marks) each =
    let first : mark_found image certificate pages a m ≡ passes = rw add-zero at (each 0 (omega arith)) in
    rw first (all_pass image certificate pages (suc a) marks (λ i h. rw (← shift i) (each (suc i) (omega arith))))
  where
    shift : (i : ℕ) → a + suc i ≡ suc a + i
    shift i = omega arith

-- a page at which a mark is at fault, and with none before it is
pub record Faulty (image certificate : List ℕ) (pages a mark : ℕ) (r : Numbered) : Type 0 where
  pub page : ℕ
  pub below : page < pages
  pub stops : page_found (space_of image page) certificate a mark ≡ fault r
  pub clear : (j : ℕ) → j < page → page_found (space_of image j) certificate a mark ≡ passes

-- what is known after passes with so many pages: no mark before `end` is at fault with any of them, and the one there is
abbrev pub First : (image certificate : List ℕ) → (pages end : ℕ) → Found → Type 0
First image certificate pages end passes = end ≡ length certificate
First image certificate pages end (fault r) =
    (end < length certificate)
    × Faulty image certificate pages (lowest certificate + end) (get_or certificate end 0) r

pub record Known (image certificate : List ℕ) (pages end : ℕ) (f : Found) : Type 0 where
  pub fits : end ≤ length certificate
  pub before : (i j : ℕ) → i < end → j < pages
      → page_found (space_of image j) certificate (lowest certificate + i) (get_or certificate i 0) ≡ passes
  pub first : First image certificate pages end f

module _ (image certificate : List ℕ) (k : ℕ) where
  -- with one page more
  more_pages : (i : ℕ)
      → ((j : ℕ) → j < k → page_found (space_of image j) certificate (lowest certificate + i) (get_or certificate i 0) ≡ passes)
      → page_found (space_of image k) certificate (lowest certificate + i) (get_or certificate i 0) ≡ passes
      → (j : ℕ) → j < k + 1
      → page_found (space_of image j) certificate (lowest certificate + i) (get_or certificate i 0) ≡ passes
  more_pages i all last =
      below_more
      (λ j. page_found (space_of image j) certificate (lowest certificate + i) (get_or certificate i 0) ≡ passes) k all last

  wider : (end : ℕ) (f : Found) → First image certificate k end f → First image certificate (k + 1) end f
  wider end passes e = e
  wider end (fault r) (h, at) =
      (h, record { page = at.page; below = omega (arith, at.below); stops = at.stops; clear = at.clear })

  pub known_more : (end : ℕ) (f : Found) → Known image certificate k end f → (g : Found) (end' : ℕ)
      → Searched (space_of image k) certificate end g end' → Known image certificate (k + 1) end' (and_then g f)
  known_more end f known passes end' s =
      let same : end' ≡ end = s.ends in
      record {
        fits = omega (arith, known.fits);
        before = λ i j h. more_pages i (λ p l. known.before i p (omega arith) l) (s.before i h) j;
        first = rw same (wider end f known.first);
      }
  known_more end f known (fault r) end' s =
      let less : end' < end = s.ends.0 in
      record {
        fits = omega (arith, known.fits);
        before = λ i j h. more_pages i (λ p l. known.before i p (omega arith) l) (s.before i h) j;
        first = (
          omega (arith, known.fits),
          record {
            page = k;
            below = omega arith;
            stops = s.ends.1;
            clear = λ j l. known.before end' j less l;
          },
        );
      }

-- with all pages the first fault is the check's
pub known_all : (image certificate : List ℕ) (n end : ℕ) (f : Found) → Known image certificate (suc n) end f
    → f ≡ marks_found image certificate (suc n) (lowest certificate) certificate
known_all image certificate n end passes known =
    let all : end ≡ length certificate = known.first in
    sym (all_pass image certificate (suc n) (lowest certificate) certificate
    (λ i h. mark_passes image certificate (lowest certificate + i) n (get_or certificate i 0)
    (λ j l. known.before i j (omega arith) l)))
known_all image certificate n end (fault r) known =
    let at = known.first.1 in
    sym (first_fault image certificate (suc n) (lowest certificate) certificate end r known.first.0
    (λ j l. mark_passes image certificate (lowest certificate + j) n (get_or certificate j 0)
    (λ p h. known.before j p l h))
    (mark_stops image certificate (lowest certificate + end) n (get_or certificate end 0) at.page r at.below
    at.stops at.clear))
