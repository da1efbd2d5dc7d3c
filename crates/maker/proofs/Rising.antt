-- A mark is set: the marks stay forced, and the room for more falls. One part of the work after another.
use Prim.Native.Nat.{ℕ, zero, suc, ◌+◌, ◌-◌, ◌/◌, ◌≤◌, ◌<◌}
use native.Mathlib.Omega.{arith}
use mathlib.Core.Path.{◌≡◌, refl, sym, ◌∙◌, subst}
use mathlib.Core.Logic.{◌⊎◌, inl, inr, ◌≢◌}
use mathlib.Core.Bool.{Bool, true, false, true≢false, cond, ◌&&◌}
use mathlib.Core.List.{List, [], ◌∷◌}
use Rattle.std.specs.Prelude.{Result, Ok, Err, IsErr}
use Rattle.maker.specs.declared.Impossible.{Impossible}
use lib.Dec.{ltb, leb, eqb}
use lib.ListN.{length, get_or, set, length-set}
use lib.Seq.{get_or-set_same, get_or-set_other}
use borrow.Author.Tests.{ltb-true, leb-true, eqb-true, eqb-false}
use Rattle.certificate.specs.Marks.{mark_at, Marked, WellFormed, kind_of, kind_at, lowest}
use Rattle.certificate.proofs.Facts.{mark_is, at_most_4096, well_formed_lem, kind_of_lem}
use Rattle.maker.specs.Making.{Forced, Sound, room, Change, Told, Kept, Worked, joined}

pub room_set : (certificate : List ℕ) (i v : ℕ) → i < length certificate → get_or certificate i 0 < v → v ≤ 255
    → room (set certificate i v) < room certificate
unfolding room
room_set [] i v h r k = absurd (omega arith)
room_set (m ∷ certificate) zero v h r k = omega arith
room_set (m ∷ certificate) (suc i) v h r k =
    let e = room_set certificate i v (omega arith) r k in
    omega arith

-- the mark of another address stays
set_other : (certificate : List ℕ) (j v a : ℕ) → length certificate ≤ 4096 → a ≢ lowest certificate + j
    → mark_at (set certificate j v) a ≡ mark_at certificate a
unfolding mark_at
set_other certificate j v a fits n = rw length-set (go (ltb a 4096) (leb 4096 (a + length certificate)) refl refl)
  where
    go : (s t : Bool) → ltb a 4096 ≡ s → leb 4096 (a + length certificate) ≡ t
        → cond (s && t) (get_or (set certificate j v) (a + length certificate - 4096) 0) 0
        ≡ cond (s && t) (get_or certificate (a + length certificate - 4096) 0) 0
    go true true p q =
        let below = ltb-true a 4096 p in
        let above = leb-true 4096 (a + length certificate) q in
        get_or-set_other certificate j (a + length certificate - 4096) v 0 (λ e. n (omega arith))
    go true false p q = refl
    go false t p q = refl

-- the mark of the address is set
pub set_same : (certificate : List ℕ) (j v : ℕ) → length certificate ≤ 4096 → j < length certificate
    → mark_at (set certificate j v) (lowest certificate + j) ≡ v
set_same certificate j v fits h =
    let l = length-set certificate j v in
    let e = mark_is (set certificate j v) j (omega arith) (omega arith) in
    (rw length-set at e) ∙ get_or-set_same certificate j v 0 h

-- and the kinds stay, where there was no mark, or one of the same kind
pub kind_set : (certificate : List ℕ) (j v : ℕ) → length certificate ≤ 4096 → j < length certificate → WellFormed v
    → (get_or certificate j 0 ≡ 0) ⊎ (get_or certificate j 0 / 16 ≡ v / 16) → Kept certificate (set certificate j v)
unfolding kind_at
kind_set certificate j v fits h w same b k = go (eqb b (lowest certificate + j)) refl
  where
    old : (m : ℕ) → (m ≡ 0) ⊎ (m / 16 ≡ v / 16) → 1 ≤ kind_of m → kind_of v ≡ kind_of m
    old m (inl z) k = absurd (bad (rw z at k))
      where
        bad : 1 ≤ 0 → ⊥
        bad h = omega arith
    old m (inr e) k = kind_of_lem v w ∙ sym e ∙ sym (kind_of_lem m (well_formed_lem m k))

    go : (t : Bool) → eqb b (lowest certificate + j) ≡ t → kind_of (mark_at (set certificate j v) b)
        ≡ kind_of (mark_at certificate b)
    go true p =
        let e = eqb-true b (lowest certificate + j) p in
        let here = mark_is certificate j fits h in
        rw (e, set_same certificate j v fits h, here) (old (get_or certificate j 0) same (rw (e, here) at k))
    go false p = rw (set_other certificate j v b fits (eqb-false b (lowest certificate + j) p))

pub fits : {image certificate : List ℕ} {wired : ℕ} → Sound image wired certificate → length certificate ≤ 4096
fits {image} s = omega (arith, at_most_4096 (length image), s.size)

-- a forced mark keeps the marks forced
pub sound_set : (image certificate : List ℕ) (wired j v : ℕ) → Sound image wired certificate → j < length certificate
    → Forced image wired (lowest certificate + j) v → Sound image wired (set certificate j v)
sound_set image certificate wired j v s h f =
    record {
      image_length = s.image_length;
      size = simp length-set s.size;
      forced = λ a n. go a n (eqb a (lowest certificate + j)) refl;
    }
  where
    go : (a : ℕ) → Marked (set certificate j v) a → (t : Bool) → eqb a (lowest certificate + j) ≡ t
        → Forced image wired a (mark_at (set certificate j v) a)
    go a n true p =
        let e = eqb-true a (lowest certificate + j) p in
        rw (e, set_same certificate j v (fits s) h) f
    go a n false p =
        let o = set_other certificate j v a (fits s) (eqb-false a (lowest certificate + j) p) in
        rw o (s.forced a (λ z. n (o ∙ z)))

-- what the exit of a `?` returns
pub impossible : {A : Type 0} (r : Result A Impossible) → IsErr r → r ≡ Err record {}
impossible (Ok x) h = absurd (true≢false (sym h))
impossible (Err e) h = refl

module _ {image : List ℕ} {wired : ℕ} {P Q : List ℕ → Type 0} where
  -- one part of the work, then another
  pub then : {a b c : List ℕ} {p q : Change} → Worked image wired P a b p → Worked image wired Q b c q
      → Worked image wired (λ m. P m × Q m) a c (joined p q)
  then {a} {b} {c} {p} {q} s t = record { sound = t.sound; told = go p q s.told t.told; kept = both }
    where
      both : Kept a c
      both i h =
          let e = s.kept i h in
          t.kept i (rw e h) ∙ e

      go : (p q : Change) → Told image wired P a b p → Told image wired Q b c q
          → Told image wired (λ m. P m × Q m) a c (joined p q)
      go (Ok false) (Ok false) t u = (u.0 ∙ t.0, (t.1, subst Q t.0 u.1))
      go (Ok false) (Ok true) t u = subst (λ m. room c < room m) t.0 u
      go (Ok true) (Ok false) t u = subst (λ m. room m < room a) (sym u.0) t
      go (Ok true) (Ok true) t u = omega arith
      go (Ok first) (Err impossible) t u = u
      go (Err impossible) q t u = t

  -- where no certificate can meet the demands, any others can't be met either
  pub stopped : {a b : List ℕ} {e : Impossible} → Worked image wired P a b (Err e) → Worked image wired Q a b (Err e)
  stopped s = record { sound = s.sound; told = s.told; kept = s.kept }

  -- what holds of the marks, put otherwise
  pub by : {a b : List ℕ} {p : Change} → (P a → Q a) → Worked image wired P a b p → Worked image wired Q a b p
  by {a} {b} {p} f s = record { sound = s.sound; told = go p s.told; kept = s.kept }
    where
      go : (p : Change) → Told image wired P a b p → Told image wired Q a b p
      go (Ok false) t = (t.0, f t.1)
      go (Ok true) t = t
      go (Err impossible) t = t
