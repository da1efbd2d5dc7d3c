-- A record's header by its cases: each refusal where it applies, else where the body begins.
use Prim.Native.Nat.{ℕ, ◌+◌, ◌-◌, ◌≤◌, ◌<◌}
use native.Mathlib.Omega.{arith}
use mathlib.Core.Path.{◌≡◌, refl, ◌∙◌}
use mathlib.Core.Bool.{Bool, true, false, cond}
use mathlib.Core.List.{List}
use lib.Dec.{leb, eqb}
use lib.ListN.{length, drop, get_or}
use borrow.Author.Tests.{eqb-true, eqb-false, leb-true, leb-false, eq-eqb, ne_eqb, le-leb, lt-leb}
use Rattle.isa.specs.Refusals.{Numbered, plain, Answer, done, refused, unless}
use Rattle.playback.specs.Record.{count_of, body_of, long_count_of, long_body_of, body_in}
use Rattle.playback.specs.Refusals.{BodyAt, HeaderRefused}
use Rattle.playback.specs.Refusals as why

module _ (recording : List ℕ) where
  -- the first byte tells the version
  by_version_2 : get_or recording 0 0 ≡ 2 → body_in recording ≡ long_body_of recording
  unfolding body_in
  by_version_2 two = rw (eq-eqb (get_or recording 0 0) 2 two)

  pub as_before : (get_or recording 0 0 ≡ 2 → ⊥) → body_in recording ≡ body_of recording
  unfolding body_in
  as_before other = rw (ne_eqb (get_or recording 0 0) 2 other)

  -- a header is refused, or the body begins somewhere
  pub data Headed : Answer (List ℕ) → Type 0 where
    refusing : (n : Numbered) → HeaderRefused recording n → Headed (refused n)
    starting : (start : ℕ) → BodyAt recording start → Headed (done (drop start recording))

  -- in version 2
  module _ (two : get_or recording 0 0 ≡ 2) where
    under_four :
        (long : Bool) → leb 3 (length recording) ≡ long → leb 4 (length recording) ≡ false → Headed (refused (plain 28))
    under_four true f g =
        let long = leb-true 3 (length recording) f in
        let short = leb-false 4 (length recording) g in
        refusing (plain 28) (why.under_four (omega (arith, long, short)) two)
    under_four false f g = refusing (plain 28) (why.under_three (leb-false 3 (length recording) f))

    by_limits :
        length recording ≡ 4 + long_count_of recording →
        (some : Bool) → leb 65536 (long_count_of recording) ≡ some →
        (few : Bool) → leb (long_count_of recording) 1048576 ≡ few →
        Headed (unless some (refused (plain 28)) (unless few (refused (plain 30)) (done (drop 4 recording))))
    by_limits counted false f few g =
        refusing (plain 28) (why.too_few two counted (leb-false 65536 (long_count_of recording) f))
    by_limits counted true f false g =
        refusing (plain 30) (why.too_many two counted (leb-false (long_count_of recording) 1048576 g))
    by_limits counted true f true g =
        starting 4
        (why.version_2 two counted (leb-true 65536 (long_count_of recording) f) (leb-true (long_count_of recording)
        1048576 g))

    by_count :
        (long : Bool) → leb 4 (length recording) ≡ long →
        (right : Bool) → eqb (length recording - 4) (long_count_of recording) ≡ right →
        Headed
        (unless long (refused (plain 28))
        (unless right (refused (plain 28))
        (unless (leb 65536 (long_count_of recording)) (refused (plain 28))
        (unless (leb (long_count_of recording) 1048576) (refused (plain 30)) (done (drop 4 recording))))))
    by_count false f right g = under_four (leb 3 (length recording)) refl f
    by_count true f false g =
        let apart = eqb-false (length recording - 4) (long_count_of recording) g in
        refusing (plain 28)
        (why.wrong_long_count (leb-true 4 (length recording) f) two (λ is. apart (omega (arith, is))))
    by_count true f true g =
        let long = leb-true 4 (length recording) f in
        let right = eqb-true (length recording - 4) (long_count_of recording) g in
        by_limits (omega (arith, long, right)) (leb 65536 (long_count_of recording)) refl
        (leb (long_count_of recording) 1048576) refl

  -- in any other
  module _ (other : get_or recording 0 0 ≡ 2 → ⊥) where
    by_tests :
        (long : Bool) → leb 3 (length recording) ≡ long → (one : Bool) → eqb (get_or recording 0 0) 1 ≡ one →
        (right : Bool) → eqb (length recording - 3) (count_of recording) ≡ right →
        Headed
        (unless long (refused (plain 28))
        (unless one (refused (plain 27)) (unless right (refused (plain 28)) (done (drop 3 recording)))))
    by_tests false f one g right h = refusing (plain 28) (why.under_three (leb-false 3 (length recording) f))
    by_tests true f false g right h =
        refusing (plain 27)
        (why.other_version (leb-true 3 (length recording) f) (eqb-false (get_or recording 0 0) 1 g) other)
    by_tests true f true g false h =
        let apart = eqb-false (length recording - 3) (count_of recording) h in
        refusing (plain 28)
        (why.wrong_count (leb-true 3 (length recording) f) (eqb-true (get_or recording 0 0) 1 g)
        (λ is. apart (omega (arith, is))))
    by_tests true f true g true h =
        let long = leb-true 3 (length recording) f in
        let right = eqb-true (length recording - 3) (count_of recording) h in
        starting 3 (why.version_1 (eqb-true (get_or recording 0 0) 1 g) (omega (arith, long, right)))

  by_version :
      (two : Bool) → eqb (get_or recording 0 0) 2 ≡ two → Headed (cond two (long_body_of recording) (body_of recording))
  unfolding long_body_of body_of
  by_version true f =
      by_count (eqb-true (get_or recording 0 0) 2 f) (leb 4 (length recording)) refl
      (eqb (length recording - 4) (long_count_of recording)) refl
  by_version false f =
      by_tests (eqb-false (get_or recording 0 0) 2 f) (leb 3 (length recording)) refl (eqb (get_or recording 0 0) 1) refl
      (eqb (length recording - 3) (count_of recording)) refl

  pub headed : Headed (body_in recording)
  unfolding body_in
  headed = by_version (eqb (get_or recording 0 0) 2) refl

  -- the other way round: with a right header the body begins there
  pub starts : (start : ℕ) → BodyAt recording start → body_in recording ≡ done (drop start recording)
  unfolding long_body_of body_of
  starts _ (why.version_1 one counted) =
      let long : 3 ≤ length recording = omega (arith, counted) in
      let same : length recording - 3 ≡ count_of recording = omega (arith, counted) in
      as_before (λ two. omega (arith, one, two))
      ∙ rw (
        le-leb 3 (length recording) long,
        eq-eqb (get_or recording 0 0) 1 one,
        eq-eqb (length recording - 3) (count_of recording) same,
      )
  starts _ (why.version_2 two counted some few) =
      let long : 4 ≤ length recording = omega (arith, counted) in
      let same : length recording - 4 ≡ long_count_of recording = omega (arith, counted) in
      by_version_2 two
      ∙ rw (
        le-leb 4 (length recording) long,
        eq-eqb (length recording - 4) (long_count_of recording) same,
        le-leb 65536 (long_count_of recording) some,
        le-leb (long_count_of recording) 1048576 few,
      )

  -- .. and each refusal is given where it applies
  under_three : length recording < 3 → (two : Bool) → cond two (long_body_of recording) (body_of recording)
      ≡ refused (plain 28)
  unfolding long_body_of body_of
  under_three short true = rw (lt-leb 4 (length recording) (omega (arith, short)))
  under_three short false = rw (lt-leb 3 (length recording) short)

  pub refuses : (n : Numbered) → HeaderRefused recording n → body_in recording ≡ refused n
  unfolding body_in long_body_of body_of
  refuses _ (why.under_three short) = under_three short (eqb (get_or recording 0 0) 2)
  refuses _ (why.other_version long not-1 not-2) =
      as_before not-2 ∙ rw (le-leb 3 (length recording) long, ne_eqb (get_or recording 0 0) 1 not-1)
  refuses _ (why.wrong_count long one wrong) =
      as_before (λ two. omega (arith, one, two))
      ∙ rw (
        le-leb 3 (length recording) long,
        eq-eqb (get_or recording 0 0) 1 one,
        ne_eqb (length recording - 3) (count_of recording) (λ is. wrong (omega (arith, is, long))),
      )
  refuses _ (why.under_four short two) =
      by_version_2 two ∙ rw (lt-leb 4 (length recording) (omega (arith, short)))
  refuses _ (why.wrong_long_count long two wrong) =
      by_version_2 two
      ∙ rw (
        le-leb 4 (length recording) long,
        ne_eqb (length recording - 4) (long_count_of recording) (λ is. wrong (omega (arith, is, long))),
      )
  refuses _ (why.too_few two counted few) =
      by_version_2 two
      ∙ rw (
        le-leb 4 (length recording) (omega (arith, counted)),
        eq-eqb (length recording - 4) (long_count_of recording) (omega (arith, counted)),
        lt-leb 65536 (long_count_of recording) few,
      )
  refuses _ (why.too_many two counted many) =
      by_version_2 two
      ∙ rw (
        le-leb 4 (length recording) (omega (arith, counted)),
        eq-eqb (length recording - 4) (long_count_of recording) (omega (arith, counted)),
        le-leb 65536 (long_count_of recording) (omega (arith, many)),
        lt-leb (long_count_of recording) 1048576 many,
      )
