-- Sweeps over all addresses, and the demands at the vectors.
use Prim.Native.Nat.{ℕ, ◌+◌, ◌-◌, ◌≤◌, ◌<◌}
use native.Mathlib.Omega.{arith}
use mathlib.Core.Path.{◌≡◌, refl}
use mathlib.Core.Bool.{true, false}
use Rattle.certificate.specs.Marks.{kind_at}
use mathlib.Core.List.{List, [], ◌∷◌}
use lib.ListN.{length, get_or}
use borrow.Author.Count.{below_more}
use Rattle.isa.specs.Sources.{is_named, vector_of, reset_vector}
use Rattle.isa.specs.declared.Source.{Source}
use Rattle.isa.specs.declared.Source.TheVariants.{Nmi, First, Second, Third, Fourth}
use Rattle.certificate.proofs.Sound.{marked_in_rom}
use Rattle.std.specs.Prelude.{Ok}
use Rattle.maker.specs.Reach.{at_reset, at_vector, here}
use Rattle.maker.specs.Making.{Sound, Change, Worked, joined, Demanded, LawfulAt, RunsAt, VisitedEach, Swept}
use Rattle.isa.specs.Rom.{spaces_in}
use Rattle.isa.proofs.Halves.{with_any_bank}
use Rattle.certificate.specs.Rules.{Runs}
use Rattle.maker.specs.Making.{SourceKind, Seeded, Seeds, Finished}
use Rattle.maker.proofs.Rising.{then, by}

-- something has been seen to for each number below one
abbrev pub EachBelow :
    (image : List ℕ) → (P : ℕ → List ℕ → Type 0) → (before after : List ℕ) → (end : ℕ) → Change → Type 0
EachBelow image P before after end p =
    (wired : ℕ) → Sound image wired before
    → Worked image wired (λ m. (k : ℕ) → k < end → P k m) before after p

-- .. and for that number
pub each_more : {image before middle after : List ℕ} (P : ℕ → List ℕ → Type 0) {i : ℕ} {p q : Change}
    → EachBelow image P before middle i p
    → ((wired : ℕ) → Sound image wired middle → Worked image wired (P i) middle after q)
    → EachBelow image P before after (i + 1) (joined p q)
each_more {before = before} P {i = i} f g wired s =
    let t = f wired s in
    by (λ z. λ k h. below_more (λ j. P j before) i z.0 z.1 k h) (then t (g wired t.sound))

-- below ROM nothing is marked
pub passed_none : {image certificate : List ℕ} {start : ℕ} → start ≡ 4096 - length certificate →
    EachBelow image (LawfulAt image) certificate certificate start (Ok false)
passed_none {image} {certificate} {start} e wired s =
    record {
      sound = s;
      told = (refl, λ a h m. absurd (omega (arith, e, h, (marked_in_rom certificate a m).least)));
      kept = λ b h. refl;
    }

-- with every page
pub pages_all : {image before after : List ℕ} {a i : ℕ} {p : Change} → spaces_in (length image) ≤ i
    → EachBelow image (λ k. RunsAt image k a) before after i p → VisitedEach image before after a p
pages_all {image} {before} {a = a} all f wired s =
    by
    (λ z. λ m.
    record {
      mark = (z 0 (omega arith) m).0;
      runs = with_any_bank image (λ program. Runs program before a) (λ k h. (z k (omega arith) m).1);
    })
    (f wired s)

-- above ROM neither
pub passed_all : {image before after : List ℕ} {i : ℕ} {p : Change} → 4096 ≤ i
    → EachBelow image (LawfulAt image) before after i p
    → Swept image before after p
passed_all {before = before} h f wired s =
    by (λ z. λ a m. z a (omega (arith, h, (marked_in_rom before a m).most)) m) (f wired s)

-- the vector of a source
pub seeds : {before after : List ℕ} {p : Change} (wired : ℕ) (k : Source) → is_named wired k ≡ true
    → Demanded before after (vector_of k) 3 0 p → Seeds wired (SourceKind wired k) before after p
seeds wired k w d image s = by (λ m. λ w. m.kind_is) (d image wired s (at_vector k w) here).0

-- the sources, in the order in which their vectors are demanded
abbrev pub sources : List Source
sources = Nmi ∷ First ∷ Second ∷ Third ∷ Fourth ∷ []

-- FFEh, and the vectors of the first sources
abbrev pub SeededFirst : (wired count : ℕ) → List ℕ → Type 0
SeededFirst wired count m = (kind_at m reset_vector ≡ 1) × ((i : ℕ) → i < count → SourceKind wired (get_or sources i Nmi) m)

pub seeds_reset : {before after : List ℕ} {p : Change} (wired : ℕ) → Demanded before after reset_vector 1 0 p
    → Seeds wired (SeededFirst wired 0) before after p
seeds_reset wired d image s = by (λ m. (m.kind_is, λ i h. absurd (omega arith))) (d image wired s at_reset here).0

pub seeds_more : {before middle after : List ℕ} {p q : Change} (wired i : ℕ)
    → Seeds wired (SeededFirst wired i) before middle p → Seeds wired (SourceKind wired (get_or sources i Nmi)) middle after q
    → Seeds wired (SeededFirst wired (i + 1)) before after (joined p q)
seeds_more {before} wired i f g image s =
    let t = f image s in
    by
    (λ z. (z.0.0, λ k h. below_more (λ j. SourceKind wired (get_or sources j Nmi) before) i z.0.1 z.1 k h))
    (then t (g image t.sound))

pub seeds_all : {before after : List ℕ} {p : Change} (wired i : ℕ) → 5 ≤ i
    → Seeds wired (SeededFirst wired i) before after p → Seeds wired (Seeded wired) before after p
seeds_all {before} wired i h f image s =
    by (λ z. record { start_up = z.0; vectors = each z.1 }) (f image s)
  where
    each : ((k : ℕ) → k < i → SourceKind wired (get_or sources k Nmi) before) → (k : Source) → SourceKind wired k before
    each z Nmi = z 0 (omega arith)
    each z First = z 1 (omega arith)
    each z Second = z 2 (omega arith)
    each z Third = z 3 (omega arith)
    each z Fourth = z 4 (omega arith)

-- the vectors, then all addresses
pub finishes : {image a b c : List ℕ} {wired : ℕ} {p q : Change} → Sound image wired a
    → Seeds wired (Seeded wired) a b p → Swept image b c q → Worked image wired (Finished image wired) a c (joined p q)
finishes {image} {wired = wired} s f g =
    let t = f image s in
    by (λ z. (z.0, z.1)) (then t (g wired t.sound))
