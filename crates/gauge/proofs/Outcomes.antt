-- Exactly one of three: a width, 23 or 24.
use Prim.Native.Nat.{ℕ, zero, suc, ◌+◌, ◌-◌, ◌<◌}
use mathlib.Core.Path.{◌≡◌, refl, sym, ap, ◌∙◌}
use mathlib.Core.Logic.{◌⊎◌, inl, inr}
use mathlib.Core.List.{List}
use native.Mathlib.Omega.{arith}
use Rattle.isa.specs.Refusals.{Numbered, plain, Answer, done, refused}
use Rattle.machine.specs.Run.{steps_of}
use Rattle.certificate.specs.Check.{Verdict, accepted}
use Rattle.gauge.specs.Sleep.{
  machine_after,
  asleep_after,
  AwakeAfter,
  Ready,
  width_shown,
  Size,
  size_as,
  size_of,
}
use Rattle.gauge.specs.Width.{start_of, unpaged_check, width_of}
use Rattle.gauge.specs.Outcomes.{
  NotChecked,
  Measured,
  NeverSlept,
  Answers,
  Outcome,
  measured,
  not_checked,
  never_slept,
  NoOther,
  ExactlyOne,
}
use Rattle.gauge.proofs.NeverStops.{ready, checked}
use Rattle.gauge.proofs.Search.{AwakeFrom, FirstFrom, size_at, finds, finds_none, search_from}

width_in : Answer Size → ℕ
width_in (done s) = s.width
width_in (refused n) = 0

steps_in : Answer Size → ℕ
steps_in (done s) = s.steps
steps_in (refused n) = 0

-- equal answers have the same width and steps
one_size : {w s w' s' : ℕ} → ◌≡◌ {A = Answer Size} (done (size_as w s)) (done (size_as w' s')) → (w ≡ w') × (s ≡ s')
unfolding width_in steps_in
one_size e = (ap width_in e, ap steps_in e)

module _ (image certificate : List ℕ) (count : ℕ) where
  measures : (width steps : ℕ) → Measured image certificate count width steps
      → width_of image certificate count ≡ done (size_as width steps)
  unfolding width_of
  measures width steps x =
      let whole : 1 + (steps - 1) ≡ steps = omega (arith, x.least) in
      let found : size_of image (start_of count) ≡ size_at image (start_of count) steps =
      rw whole at
      (finds image (start_of count) 1 65535 (steps - 1) (omega (arith, x.least, x.most))
      (λ d h. x.awake (1 + d) (omega arith)) (rw whole x.asleep)) in
      rw (x.accepted.accepts, x.shows) found

  refuses_23 : NotChecked image certificate → width_of image certificate count ≡ refused (plain 23)
  unfolding width_of
  refuses_23 x = rw x.refuses

  refuses_24 : NeverSlept image certificate count → width_of image certificate count ≡ refused (plain 24)
  unfolding width_of
  refuses_24 x =
      rw x.accepted.accepts (finds_none image (start_of count) 1 65535 (λ d h. x.awake (1 + d) (omega arith)))

  module _ (levels : ℕ) (accepts : unpaged_check image certificate ≡ accepted levels) where
    r : Ready image (start_of count)
    r = ready image certificate levels (checked image certificate accepts) count

    -- awake at the start too
    from_start : (steps : ℕ) → AwakeFrom image (start_of count) 1 steps → (n : ℕ) → n < suc steps
        → AwakeAfter image (start_of count) n
    unfolding steps_of
    from_start steps awake zero h = r.awake
    from_start steps awake (suc k) h =
        let same : suc k ≡ 1 + k = omega arith in
        ap (asleep_after image (start_of count)) same ∙ awake k (omega arith)

    by_search : FirstFrom image (start_of count) 1 65535 ⊎ AwakeFrom image (start_of count) 1 65535
        → Outcome image certificate count
    by_search (inl f) =
        measured (width_shown (machine_after image (start_of count) (1 + f.distance))) (1 + f.distance)
        (record {
          accepted = record { levels = levels; accepts = accepts };
          least = omega arith;
          most = omega (arith, f.within);
          asleep = f.asleep;
          awake = λ n h. from_start f.distance f.awake n (omega arith);
          all_done = λ n h. r.all_done n (omega (arith, f.within));
          shows = refl;
        })
    by_search (inr none) =
        never_slept
        (record {
          accepted = record { levels = levels; accepts = accepts };
          awake = λ n h. from_start 65535 none n (omega arith);
          all_done = r.all_done;
        })

  by_check : (v : Verdict) → unpaged_check image certificate ≡ v → Outcome image certificate count
  by_check (done levels) e = by_search levels e (search_from image (start_of count) 1 65535)
  by_check (refused n) e = not_checked (record { refusal = n; refuses = e })

  outcome : Outcome image certificate count
  outcome = by_check (unpaged_check image certificate) refl

  -- two answers that differ
  apart : {P : Type 0} (a b : ℕ) → a < b → ◌≡◌ {A = Answer Size} (refused (plain a)) (refused (plain b)) → P
  apart a b h e = let y : a ≡ b = cc in absurd (omega arith)

  not_done : {P : Type 0} (s : Size) (n : Numbered) → ◌≡◌ {A = Answer Size} (refused n) (done s) → P
  not_done s n e = cc

  measured_only : (width steps : ℕ) → width_of image certificate count ≡ done (size_as width steps)
      → Measured image certificate count width steps
  measured_only width steps e = by_outcome outcome
    where
      by_outcome : Outcome image certificate count → Measured image certificate count width steps
      by_outcome (measured w s x) =
          let same = one_size (sym (measures w s x) ∙ e) in
          rw (sym same.0, sym same.1) x
      by_outcome (not_checked x) = not_done (size_as width steps) (plain 23) (sym (refuses_23 x) ∙ e)
      by_outcome (never_slept x) = not_done (size_as width steps) (plain 24) (sym (refuses_24 x) ∙ e)

  refused_23 : width_of image certificate count ≡ refused (plain 23) → NotChecked image certificate
  refused_23 e = by_outcome outcome
    where
      by_outcome : Outcome image certificate count → NotChecked image certificate
      by_outcome (measured w s x) = not_done (size_as w s) (plain 23) (sym e ∙ measures w s x)
      by_outcome (not_checked x) = x
      by_outcome (never_slept x) = apart 23 24 (omega arith) (sym e ∙ refuses_24 x)

  refused_24 : width_of image certificate count ≡ refused (plain 24) → NeverSlept image certificate count
  refused_24 e = by_outcome outcome
    where
      by_outcome : Outcome image certificate count → NeverSlept image certificate count
      by_outcome (measured w s x) = not_done (size_as w s) (plain 24) (sym e ∙ measures w s x)
      by_outcome (not_checked x) = apart 23 24 (omega arith) (sym (refuses_23 x) ∙ e)
      by_outcome (never_slept x) = x

  answers : Answers image certificate count
  answers = record {
    measured = measured_only;
    measures = measures;
    refused_23 = refused_23;
    refuses_23 = refuses_23;
    refused_24 = refused_24;
    refuses_24 = refuses_24;
  }

  no_other : NoOther image certificate count
  no_other = record {
    measured_is_checked = λ w s x y. not_done (size_as w s) (plain 23) (sym (refuses_23 y) ∙ measures w s x);
    measured_slept = λ w s x y. not_done (size_as w s) (plain 24) (sym (refuses_24 y) ∙ measures w s x);
    awake_is_checked = λ x y. apart 23 24 (omega arith) (sym (refuses_23 y) ∙ refuses_24 x);
    one_size = λ w s w' s' x y. one_size (sym (measures w s x) ∙ measures w' s' y);
  }

-- W-201
pub exactly_one : ExactlyOne
exactly_one = record { answers = answers; outcome = outcome; no_other = no_other }
