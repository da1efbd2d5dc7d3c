-- A demand of a kind and a need at a reachable address: what each of its ends tells.
use Prim.Native.Nat.{ℕ, ◌+◌, ◌*◌, ◌/◌, ◌%◌, ◌≤◌, ◌<◌}
use native.Mathlib.Omega.{arith}
use mathlib.Core.Path.{◌≡◌, refl, sym, ◌∙◌}
use mathlib.Core.Logic.{◌⊎◌, inl, inr, ◌≢◌}
use mathlib.Core.List.{List}
use lib.ListN.{length, get_or, set}
use Rattle.std.specs.Prelude.{true, false, Ok, Err}
use Rattle.certificate.specs.Check.{marks_in}
use Rattle.certificate.specs.Marks.{mark_at, WellFormed, kind_at, need_at, lowest}
use Rattle.certificate.proofs.Facts.{mark_is, kind_of_lem}
use Rattle.maker.specs.Least.{NoneAccepted}
use Rattle.maker.specs.Making.{Forced, Sound, Worked, Outside, IsPlace, Meets, Demanded}
use Rattle.maker.proofs.Rising.{room_set, set_same, kind_set, sound_set, fits}
use Rattle.maker.proofs.Reached.{reached_kind}
use Rattle.maker.specs.Reach.{Reachable}
use Rattle.maker.proofs.Refuted.{outside, too_deep, two_kinds}

-- nothing changed, since no certificate is accepted
pub refuted : {image certificate : List ℕ} {wired : ℕ} {P : List ℕ → Type 0} → Sound image wired certificate
    → NoneAccepted image wired → Worked image wired P certificate certificate (Err record {})
refuted s n = record { sound = s; told = n; kept = λ b h. refl }

-- a mark of a kind and a need
meets : {certificate : List ℕ} {a mark kind need : ℕ} → WellFormed mark → mark_at certificate a ≡ mark → mark / 16 ≡ kind
    → need ≤ mark % 16 → Meets a kind need certificate
unfolding kind_at need_at
meets {certificate} {a} {mark} w e k n = record { kind_is = rw e (kind_of_lem mark w ∙ k); need_least = rw e n }

none_least : 1 ≤ 0 → ⊥
none_least h = omega arith

module _ (certificate : List ℕ) (a kind need : ℕ) where
  pub is_outside : Outside certificate a → Demanded certificate certificate a kind need (Err record {})
  is_outside o image wired s r t = (refuted s (outside image wired a kind r (go o s.size)), tt)
    where
      go : Outside certificate a → length certificate ≡ marks_in (length image)
          → (4096 ≤ a) ⊎ (a + marks_in (length image) < 4096)
      go (inl h) e = inl h
      go (inr h) e = inr (omega arith)

  pub is_too_deep : 6 < need → Demanded certificate certificate a kind need (Err record {})
  is_too_deep h image wired s r t = (refuted s (too_deep image wired a kind r need t h), tt)

  module _ {at : ℕ} (place : IsPlace certificate a at) where
    here : {image : List ℕ} {wired : ℕ} → Sound image wired certificate → mark_at certificate a ≡ get_or certificate at 0
    here s =
        let f = fits s in
        let e = mark_is certificate at f (omega arith) in
        let back : lowest certificate + at ≡ a = omega arith in
        rw back at e

    forced_here : {image : List ℕ} {wired : ℕ} → Sound image wired certificate → get_or certificate at 0 ≢ 0
        → Forced image wired a (get_or certificate at 0)
    forced_here s n =
        let e = here s in
        rw e at (s.forced a (λ z. n (sym e ∙ z)))

    pub is_clash : get_or certificate at 0 ≢ 0 → get_or certificate at 0 / 16 ≢ kind
        → Demanded certificate certificate a kind need (Err record {})
    is_clash n m image wired s r t =
        (refuted s (two_kinds image wired a kind r (get_or certificate at 0 / 16) (forced_here s n).reached m), tt)

    pub is_raised : (get_or certificate at 0 ≡ 0) ⊎ (get_or certificate at 0 / 16 ≡ kind)
        → get_or certificate at 0 < kind * 16 + need → need ≤ 6
        → Demanded certificate (set certificate at (kind * 16 + need)) a kind need (Ok true)
    is_raised o h n image wired s r t =
        let f = fits s in
        let k = reached_kind a kind r in
        let inside : at < length certificate = omega arith in
        let back : a ≡ lowest certificate + at = omega arith in
        let high_digit : (kind * 16 + need) / 16 ≡ kind = omega arith in
        let low_digit : (kind * 16 + need) % 16 ≡ need = omega arith in
        let formed : WellFormed (kind * 16 + need) =
        record { kind_least = omega arith; kind_most = omega arith; need_most = omega arith } in
        let forced : Forced image wired a (kind * 16 + need) =
        record { formed = formed; reached = rw high_digit r; takes = rw (high_digit, low_digit) t } in (
          record {
            sound = sound_set image certificate wired at (kind * 16 + need) s inside (rw back at forced);
            told = room_set certificate at (kind * 16 + need) inside (omega arith) (omega arith);
            kept = kind_set certificate at (kind * 16 + need) f inside formed (rw high_digit o);
          },
          meets formed (rw back (set_same certificate at (kind * 16 + need) f inside)) high_digit (omega arith),
        )

    pub is_met : (get_or certificate at 0 ≡ 0) ⊎ (get_or certificate at 0 / 16 ≡ kind)
        → kind * 16 + need ≤ get_or certificate at 0 → Demanded certificate certificate a kind need (Ok false)
    is_met o h image wired s r t =
        let k = reached_kind a kind r in
        let n : get_or certificate at 0 ≢ 0 = λ z. omega (arith, z) in
        let same : get_or certificate at 0 / 16 ≡ kind = omega (arith, o) in
        let m : Meets a kind need certificate = meets (forced_here s n).formed (here s) same (omega arith) in
        (record { sound = s; told = (refl, m); kept = λ b h. refl }, m)

-- the need alone, at an address that has a kind
module _ (certificate : List ℕ) (a need : ℕ) {at : ℕ} (place : IsPlace certificate a at) where
  kind_here : {image : List ℕ} {wired : ℕ} → Sound image wired certificate →
      Reachable image wired a (kind_at certificate a)
      → get_or certificate at 0 / 16 ≡ kind_at certificate a
  unfolding kind_at
  kind_here s r =
      let e = here certificate a (kind_at certificate a) need place s in
      let least = (reached_kind a (kind_at certificate a) r).0 in
      let n : get_or certificate at 0 ≢ 0 = λ z. none_least (rw (e, z) at least) in
      sym (rw e (kind_of_lem (get_or certificate at 0) (forced_here certificate a (kind_at certificate a) need place s n).formed))

  pub is_enough : need ≤ get_or certificate at 0 % 16
      → Demanded certificate certificate a (kind_at certificate a) need (Ok false)
  is_enough h image wired s r t =
      let k = kind_here s r in
      is_met certificate a (kind_at certificate a) need place (inr k) (omega (arith, k)) image wired s r t

  pub is_lifted : get_or certificate at 0 % 16 < need → need ≤ 6
      → Demanded certificate (set certificate at (get_or certificate at 0 / 16 * 16 + need)) a (kind_at certificate a) need (Ok true)
  is_lifted h n image wired s r t =
      let k = kind_here s r in
      rw k (is_raised certificate a (kind_at certificate a) need place (inr k) (omega (arith, k)) n image wired s r t)
