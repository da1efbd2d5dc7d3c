-- The store of a run: an empty one, and one with a number more.
use Prim.Native.Nat.{ℕ, ◌<◌, ◌≤◌}
use mathlib.Core.Path.{◌≡◌, refl, sym, ◌∙◌, subst}
use mathlib.Core.Bool.{Bool, true, false}
use mathlib.Core.List.{List}
use native.Mathlib.Omega.{arith}
use lib.Dec.{eqb, ltb}
use lib.ListN.{length, get_or, set, replicate, length-replicate, get_or-replicate, get_or-eq_default}
use lib.Seq.{get_or-set_same, get_or-set_other}
use borrow.Author.Tests.{ltb-true, ltb-false, eqb-true, eqb-false}
use Rattle.std.specs.Prelude.{Ok}
use Rattle.isa.specs.Rom.{space_of}
use Rattle.isa.specs.Decode.{decode_of}
use Rattle.isa.specs.Predecoded.{tag_for, tag_of_word}
use Rattle.machine.specs.Fetch.{fetched_as, Coherent}

-- what a number stands for, if it has this tag
abbrev Stands : (image : List ℕ) → (w bank a : ℕ) → Type 0
Stands image w bank a = fetched_as (Ok w) ≡ decode_of (space_of image bank) a

-- a tag tells its bank byte and its address
module _ (bank a bank₀ a₀ : ℕ) (h : a < 4096) (h₀ : a₀ < 4096) (e : tag_for bank a ≡ tag_for bank₀ a₀) where
  same_bank : bank ≡ bank₀
  same_bank = omega arith

  same_address : a ≡ a₀
  same_address = omega arith

-- a number that stands for what is at one place stands for what is at each that its tag tells
by_tag :
    (image : List ℕ) (w bank₀ a₀ bank a : ℕ) → a₀ < 4096 → tag_of_word w ≡ tag_for bank₀ a₀ → Stands image w bank₀ a₀ →
    a < 4096 → tag_of_word w ≡ tag_for bank a → Stands image w bank a
by_tag image w bank₀ a₀ bank a h₀ t₀ e h t =
    let q : tag_for bank a ≡ tag_for bank₀ a₀ = sym t ∙ t₀ in
    rw (same_bank bank a bank₀ a₀ h h₀ q, same_address bank a bank₀ a₀ h h₀ q) e

pub coherent_set :
    (image store : List ℕ) (at w bank a : ℕ) → at < length store → Coherent image store → a < 4096 →
    tag_of_word w ≡ tag_for bank a → Stands image w bank a → Coherent image (set store at w)
coherent_set image store at w bank₀ a₀ inside coherent h₀ t₀ e k bank a h t = go (eqb k at) refl
  where
    go : (b : Bool) → eqb k at ≡ b → Stands image (get_or (set store at w) k 0) bank a
    go true same =
        let found : get_or (set store at w) k 0 ≡ w = rw (eqb-true k at same) (get_or-set_same store at w 0 inside) in
        rw found (by_tag image w bank₀ a₀ bank a h₀ t₀ e h (rw found at t))
    go false other =
        let kept : get_or (set store at w) k 0 ≡ get_or store k 0 = get_or-set_other store at k w 0 (eqb-false k at other) in
        rw kept (coherent k bank a h (rw kept at t))

-- a store of zeros: 0 has no tag
zeros : (n k : ℕ) → get_or {A = ℕ} (replicate n 0) k 0 ≡ 0
zeros n k = go (ltb k n) refl
  where
    go : (b : Bool) → ltb k n ≡ b → get_or {A = ℕ} (replicate n 0) k 0 ≡ 0
    go true e = get_or-replicate n k 0 0 (ltb-true k n e)
    go false e =
        get_or-eq_default (replicate n 0) 0
        (subst (λ m. m ≤ k) (sym (length-replicate {A = ℕ} n 0)) (ltb-false k n e))

no_tag : (bank a : ℕ) → tag_of_word 0 ≡ tag_for bank a → ⊥
no_tag bank a e = omega arith

pub coherent_none : (image : List ℕ) (n : ℕ) → Coherent image (replicate n 0)
coherent_none image n k bank a h t = absurd (no_tag bank a (rw (zeros n k) at t))
