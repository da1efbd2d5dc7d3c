-- Program space by its halves: where a byte of it stands, and what an image's page and fixed half are.
use mathlib.Core.Path.{◌≡◌, refl, sym, ◌∙◌, ap, subst}
use mathlib.Core.Bool.{Bool, true, false, cond, ◌||◌, and-eq-true_iff}
use mathlib.Core.List.{List, [], ◌∷◌, ◌++◌}
use mathlib.Core.Logic.{◌⊎◌, inl, inr, ⊎_elim}
use Prim.Native.Nat.{ℕ, zero, suc, ◌+◌, ◌-◌, ◌*◌, ◌/◌, ◌%◌, ◌<◌, ◌≤◌}
use native.Mathlib.Omega.{arith}
use borrow.Author.Tests.{lt-ltb, le-leb, lt-leb, leb-true, leb-false, eqb-true, ltb-true, ltb-false}
use lib.Dec.{ltb, leb, eqb}
use lib.ListN.{length, get_or, take, drop, length-append, length-drop, get_or-append, take-append-drop}
use lib.Seq.{get_or-append-add, length-take-le, take_all, take-take, take-add, drop_at, get_or-drop}
use native.Mathlib.Nat.{mod-lt, mod-one, mod-mod}
use Rattle.std.specs.Prelude.{Some, None, slice_get}
use Rattle.std.proofs.lemmas.Option.{slice_get-get_or, slice_get_past}
use Rattle.isa.specs.Displacement.{forward_of}
use Rattle.isa.specs.RoundTrip.{Bytes}
use Rattle.isa.specs.Rom.{is_space, is_image, IsImage, spaces_in, page_of, fixed_of, space_of, Halves, half_of, rom_at}

-- the two lengths of program space: the test as a sum
pub space_length : (n : ℕ) → is_space n ≡ true → (n ≡ 2048) ⊎ (n ≡ 4096)
space_length n e = by_first (eqb n 2048) refl e
  where
    by_first : (b : Bool) → eqb n 2048 ≡ b → (b || eqb n 4096) ≡ true → (n ≡ 2048) ⊎ (n ≡ 4096)
    by_first true t e = inl (eqb-true n 2048 t)
    by_first false t e = inr (eqb-true n 4096 e)

-- what holds of both lengths holds of one that passes the test
pub by_length : (P : ℕ → Type 0) → P 2048 → P 4096 → (n : ℕ) → is_space n ≡ true → P n
by_length P small large n is = ⊎_elim (λ e. rw e small) (λ e. rw e large) (space_length n is)

pub space_most : (n : ℕ) → is_space n ≡ true → n ≤ 4096
space_most = by_length (λ n. n ≤ 4096) (omega arith) (omega arith)

-- what is known of an image's length
pub record Sized (n : ℕ) : Type 0 where
  pub whole : n % 2048 ≡ 0
  pub least : 2048 ≤ n
  pub most : n ≤ 20480

pub sized : (n : ℕ) → is_image n ≡ true → Sized n
sized n e =
    let p = (and-eq-true_iff (eqb (n % 2048) 0) _).0 e in
    let q = (and-eq-true_iff (leb 2048 n) (leb n 20480)).0 p.1 in
    record {
      whole = eqb-true (n % 2048) 0 p.0;
      least = leb-true 2048 n q.0;
      most = leb-true n 20480 q.1;
    }

module _ (page fixed : List ℕ) (h : Halves page fixed) where
  -- below 800h without a page, with one, and above
  low_out : (a : ℕ) → a < 2048 → length page ≡ 0 → rom_at (page ++ fixed) a ≡ None
  unfolding rom_at
  low_out a b none =
      let size : length (page ++ fixed) ≡ 2048 = length-append page fixed ∙ omega (arith, h.1) in
      rw (lt-ltb a 4096 (omega arith), size, lt-leb 4096 (a + 2048) (omega arith))

  low_in : (a : ℕ) → a < 2048 → length page ≡ 2048 → rom_at (page ++ fixed) a ≡ Some (get_or page a 0)
  unfolding rom_at
  low_in a b full =
      let size : length (page ++ fixed) ≡ 4096 = length-append page fixed ∙ omega (arith, h.1) in
      let at : a + 4096 - 4096 ≡ a = omega arith in
      rw (
        lt-ltb a 4096 (omega arith),
        size,
        le-leb 4096 (a + 4096) (omega arith),
        at,
        get_or-append page fixed 0 a (omega arith),
      )

  high_in : (a : ℕ) → 2048 ≤ a → a < 4096 → rom_at (page ++ fixed) a ≡ Some (get_or fixed (a - 2048) 0)
  unfolding rom_at
  high_in a b top =
      let size : length (page ++ fixed) ≡ length page + 2048 = length-append page fixed ∙ omega (arith, h.1) in
      let at : a + (length page + 2048) - 4096 ≡ length page + (a - 2048) = omega arith in
      rw (
        lt-ltb a 4096 top,
        size,
        le-leb 4096 (a + (length page + 2048)) (omega arith),
        at,
        get_or-append-add page fixed (a - 2048) 0,
      )

  -- a byte of the half in which its address lies
  pub rom_in_lem : (a : ℕ) → a < 4096 → a % 2048 < length (half_of page fixed a)
      → rom_at (page ++ fixed) a ≡ Some (get_or (half_of page fixed a) (a % 2048) 0)
  unfolding half_of
  rom_in_lem a top = by_half (ltb a 2048) refl
    where
      by_half : (b : Bool) → ltb a 2048 ≡ b → a % 2048 < length (cond b page fixed)
          → rom_at (page ++ fixed) a ≡ Some (get_or (cond b page fixed) (a % 2048) 0)
      by_half true e inside =
          let low : a < 2048 = ltb-true a 2048 e in
          let at : a % 2048 ≡ a = omega arith in
          rw at
          (low_in a low (⊎_elim (λ (none : length page ≡ 0). absurd (omega arith)) (λ full. full) h.0))
      by_half false e inside =
          let high : 2048 ≤ a = ltb-false a 2048 e in
          let at : a % 2048 ≡ a - 2048 = omega arith in
          rw at (high_in a high top)

  pub rom_out : (a : ℕ) → a < 4096 → length (half_of page fixed a) ≤ a % 2048 → rom_at (page ++ fixed) a ≡ None
  unfolding half_of
  rom_out a top = by_half (ltb a 2048) refl
    where
      by_half : (b : Bool) → ltb a 2048 ≡ b → length (cond b page fixed) ≤ a % 2048
          → rom_at (page ++ fixed) a ≡ None
      by_half true e outside =
          let low : a < 2048 = ltb-true a 2048 e in
          low_out a low (⊎_elim (λ none. none) (λ (full : length page ≡ 2048). absurd (omega arith)) h.0)
      by_half false e outside = absurd (omega (arith, h.1))

  -- the byte that reading the half gives, if there is one
  pub rom_get : (a : ℕ) → a < 4096 → slice_get (half_of page fixed a) (a % 2048) ≡ rom_at (page ++ fixed) a
  rom_get a top = by_end (ltb (a % 2048) (length (half_of page fixed a))) refl
    where
      by_end : (b : Bool) → ltb (a % 2048) (length (half_of page fixed a)) ≡ b
          → slice_get (half_of page fixed a) (a % 2048) ≡ rom_at (page ++ fixed) a
      by_end true e =
          let inside : a % 2048 < length (half_of page fixed a) = ltb-true _ _ e in
          slice_get-get_or _ _ 0 inside ∙ sym (rom_in_lem a top inside)
      by_end false e =
          let outside : length (half_of page fixed a) ≤ a % 2048 = ltb-false _ _ e in
          slice_get_past _ _ outside ∙ sym (rom_out a top outside)

  -- the bytes that follow in the same half
  pub rom_on : (a j : ℕ) → a < 4096 → j < 3 → a % 2048 + j < length (half_of page fixed a)
      → rom_at (page ++ fixed) (forward_of a j) ≡ Some (get_or (half_of page fixed a) (a % 2048 + j) 0)
  unfolding half_of
  rom_on a j top few = by_half (ltb a 2048) refl
    where
      by_half : (b : Bool) → ltb a 2048 ≡ b → a % 2048 + j < length (cond b page fixed)
          → rom_at (page ++ fixed) (forward_of a j) ≡ Some (get_or (cond b page fixed) (a % 2048 + j) 0)
      by_half true e inside =
          let low : a < 2048 = ltb-true a 2048 e in
          let full : length page ≡ 2048 =
          ⊎_elim (λ (none : length page ≡ 0). absurd (omega arith)) (λ full. full) h.0 in
          let at : a % 2048 + j ≡ a + j = omega arith in
          let to : (a + j) % 4096 ≡ a + j = omega arith in
          rw (at, to) (low_in (a + j) (omega arith) full)
      by_half false e inside =
          let high : 2048 ≤ a = ltb-false a 2048 e in
          let most : a % 2048 + j < 2048 = omega (arith, h.1) in
          let at : a % 2048 + j ≡ a + j - 2048 = omega arith in
          let to : (a + j) % 4096 ≡ a + j = omega arith in
          rw (at, to) (high_in (a + j) (omega arith) (omega arith))

-- a page, or nothing, and a fixed half are program space
pub halves_space : (page fixed : List ℕ) → Halves page fixed → is_space (length (page ++ fixed)) ≡ true
halves_space page fixed h =
    let count : length (page ++ fixed) ≡ length page + length fixed = length-append page fixed in
    ⊎_elim
    (λ (none : length page ≡ 0). (let e : length (page ++ fixed) ≡ 2048 = omega (arith, h.1) in rw e))
    (λ (full : length page ≡ 2048). (let e : length (page ++ fixed) ≡ 4096 = omega (arith, h.1) in rw e))
    h.0

pub cancel : (a b : ℕ) → a + b - a ≡ b
cancel a b = omega arith

-- a part of a part
drop_take : (m e : ℕ) (l : List ℕ) → m ≤ length l → drop m (take (m + e) l) ≡ take e (drop m l)
drop_take m e l h = rw (take-add m e l) (drop_at (take m l) (take e (drop m l)) m (length-take-le m l h))

-- what the page is, by the image's length: the one that there is, or nothing; or the one that is picked
module _ (image : List ℕ) (bank : ℕ) where
  pub page_only : length image ≤ 4096 → page_of image bank ≡ take (length image - 2048) image
  unfolding page_of
  page_only few =
      let one : spaces_in (length image) ≡ 1 = omega arith in
      let count : length (take (length image - 2048) image) ≡ length image - 2048 =
      length-take-le (length image - 2048) image (omega arith) in
      rw (one, mod-one) (take_all 2048 (take (length image - 2048) image) (omega arith))

  -- it lies before the fixed half
  pub page_fits : 4096 < length image → bank % spaces_in (length image) * 2048 + 2048 ≤ length image - 2048
  page_fits many = below (bank % spaces_in (length image)) (length image) many (mod-lt bank (omega arith))
    where
      below : (k n : ℕ) → 4096 < n → k < spaces_in n → k * 2048 + 2048 ≤ n - 2048
      below k n many h = omega arith

  pub page_picked : 4096 < length image
      → page_of image bank ≡ take 2048 (drop (bank % spaces_in (length image) * 2048) image)
  unfolding page_of
  page_picked many = by_start (bank % spaces_in (length image) * 2048) (page_fits many)
    where
      by_start : (m : ℕ) → m + 2048 ≤ length image - 2048
          → take 2048 (drop m (take (length image - 2048) image)) ≡ take 2048 (drop m image)
      by_start m fits =
          let e : length image - 2048 ≡ m + (length image - 2048 - m) = omega arith in
          rw (e, drop_take m (length image - 2048 - m) image (omega arith))
          (take-take 2048 (length image - 2048 - m) (drop m image) (omega arith))

  -- where there are several pages, each is whole
  pub page_whole : 4096 < length image → length (page_of image bank) ≡ 2048
  page_whole many =
      let m : ℕ = bank % spaces_in (length image) * 2048 in
      let fits : m + 2048 ≤ length image - 2048 = page_fits many in
      let left : 2048 ≤ length (drop m image) = simp length-drop (omega arith) in
      ap length (page_picked many) ∙ length-take-le 2048 (drop m image) left

  page_length : IsImage image → (length (page_of image bank) ≡ 0) ⊎ (length (page_of image bank) ≡ 2048)
  page_length is = by_size (leb (length image) 4096) refl (sized (length image) is)
    where
      by_half : (h : ℕ) → length image / 2048 ≡ h → Sized (length image) → length image ≤ 4096
          → length (page_of image bank) ≡ length image - 2048
          → (length (page_of image bank) ≡ 0) ⊎ (length (page_of image bank) ≡ 2048)
      by_half zero f size few count = absurd (omega (arith, size.least))
      by_half (suc zero) f size few count = inl (omega (arith, size.whole, size.least))
      by_half (suc (suc h)) f size few count = inr (omega (arith, size.whole, size.least))

      by_size : (b : Bool) → leb (length image) 4096 ≡ b → Sized (length image)
          → (length (page_of image bank) ≡ 0) ⊎ (length (page_of image bank) ≡ 2048)
      by_size true e size =
          let few : length image ≤ 4096 = leb-true (length image) 4096 e in
          by_half (length image / 2048) refl size few
          (ap length (page_only few) ∙ length-take-le (length image - 2048) image (omega arith))
      by_size false e size = inr (page_whole (leb-false (length image) 4096 e))

  -- the halves of an image, and program space as it stands
  pub halves : IsImage image → Halves (page_of image bank) (fixed_of image)
  unfolding fixed_of
  halves is =
      let size : Sized (length image) = sized (length image) is in
      (page_length is, length-drop (length image - 2048) image ∙ omega (arith, size.least))

  pub is_space_lem : IsImage image → is_space (length (space_of image bank)) ≡ true
  unfolding space_of
  is_space_lem is = halves_space (page_of image bank) (fixed_of image) (halves is)

-- "With one page all equals the 4K machine": program space as it stands is the image
pub space_is_image : (image : List ℕ) (bank : ℕ) → is_space (length image) ≡ true → space_of image bank ≡ image
unfolding space_of fixed_of
space_is_image image bank e = ⊎_elim small large (space_length (length image) e)
  where
    small : length image ≡ 2048 → page_of image bank ++ drop (length image - 2048) image ≡ image
    small size = rw (page_only image bank (omega arith), size)

    large : length image ≡ 4096 → page_of image bank ++ drop (length image - 2048) image ≡ image
    large size = rw (page_only image bank (omega arith), size) (take-append-drop 2048 image)

-- such an image may be one
pub space_image : (image : List ℕ) → is_space (length image) ≡ true → IsImage image
space_image image = by_length (λ n. is_image n ≡ true) refl refl (length image)

-- .. and an image of at most 4096 bytes is program space
pub image_space : (n : ℕ) → n ≤ 4096 → is_image n ≡ true → is_space n ≡ true
image_space n few is = by_halves (n / 2048) refl (sized n is)
  where
    by_halves : (h : ℕ) → n / 2048 ≡ h → Sized n → is_space n ≡ true
    by_halves zero e s = absurd (omega (arith, s.least))
    by_halves (suc zero) e s = let size : n ≡ 2048 = omega (arith, s.whole) in rw size
    by_halves (suc (suc h)) e s = let size : n ≡ 4096 = omega (arith, s.whole) in rw size

-- what is made of bytes holds bytes
bytes_take : (n : ℕ) (l : List ℕ) → Bytes l → Bytes (take n l)
bytes_take zero l all j = omega arith
bytes_take (suc n) [] all j = omega arith
bytes_take (suc n) (x ∷ l) all zero = all zero
bytes_take (suc n) (x ∷ l) all (suc j) = bytes_take n l (λ i. all (suc i)) j

bytes_drop : (n : ℕ) (l : List ℕ) → Bytes l → Bytes (drop n l)
bytes_drop n l all j = rw (get_or-drop n l j 0) (all (n + j))

bytes_append : (l r : List ℕ) → Bytes l → Bytes r → Bytes (l ++ r)
bytes_append [] r all more j = more j
bytes_append (x ∷ l) r all more zero = all zero
bytes_append (x ∷ l) r all more (suc j) = bytes_append l r (λ i. all (suc i)) more j

pub space_bytes : (image : List ℕ) (bank : ℕ) → Bytes image → Bytes (space_of image bank)
unfolding space_of page_of fixed_of
space_bytes image bank all =
    let pages : List ℕ = take (length image - 2048) image in
    let start : ℕ = bank % spaces_in (length image) * 2048 in
    bytes_append (take 2048 (drop start pages)) (drop (length image - 2048) image)
    (bytes_take 2048 (drop start pages) (bytes_drop start pages (bytes_take (length image - 2048) image all)))
    (bytes_drop (length image - 2048) image all)

-- a bank byte, and the number of the page that it picks
pub same_space : (image : List ℕ) (bank : ℕ) → space_of image (bank % spaces_in (length image)) ≡ space_of image bank
unfolding space_of page_of
same_space image bank = rw (mod-mod bank (spaces_in (length image)))

-- what holds of program space with each page in place holds of it with any bank byte
pub with_any_bank : (image : List ℕ) → (P : List ℕ → Type 0)
    → ((k : ℕ) → k < spaces_in (length image) → P (space_of image k)) → (bank : ℕ) → P (space_of image bank)
with_any_bank image P each bank =
    subst P (same_space image bank) (each (bank % spaces_in (length image)) (mod-lt bank (omega arith)))
