-- Rows of steps: what is gathered is read as its steps.
use Prim.Native.Nat.{ℕ, zero, suc, ◌+◌, ◌*◌, ◌≤◌, ◌<◌}
use native.Mathlib.Omega.{arith}
use native.Mathlib.Numerals.{add-one}
use mathlib.Core.Path.{◌≡◌, refl, sym, ap, ◌∙◌}
use mathlib.Core.Bool.{true}
use mathlib.Core.List.{List}
use borrow.Author.Count.{below_more}
use lib.ListN.{length, drop, get_or, set, length-drop}
use lib.Seq.{get_or-set_same, get_or-set_other, drop-drop}
use Rattle.std.specs.Prelude.{slice_range}
use Rattle.isa.specs.Refusals.{Answer}
use Rattle.isa.specs.Sources.{names_only_sources}
use Rattle.playback.specs.declared.Entry.{Entry}
use Rattle.playback.specs.declared.Entry.TheVariants.{Step}
use Rattle.playback.specs.Entries.{First, then_read, entries_of, is_read}
use Rattle.playback.specs.Row.{Begins, StepAt, steps_read, Gathered}
use Rattle.playback.proofs.Reading.{read_after, to_end}

-- a step has two bytes
pub as_step : (body : List ℕ) (q size : ℕ) → First body (Step q) size → Begins body q
as_step body q size first = let two : size ≡ 2 = first.is in rw two at first

-- a step that the part of a body to its end begins with
pub step_at :
    (body : List ℕ) (at : ℕ) → at ≤ length body → (part : List ℕ) → part ≡ slice_range body at (length body) →
    (e : Entry) (size q : ℕ) → First part e size → e ≡ Step q → names_only_sources q ≡ true → StepAt body at q
step_at body at within part is e size q first step names =
    let whole : part ≡ drop at body = is ∙ to_end body at within in
    let begins = rw (whole, step) at first in
    record { within = within; begins = as_step (drop at body) q size begins; names = names }

-- a request that is stored after a row's changes none of its steps
stored_after :
    (requests : List ℕ) (i q n : ℕ) → n ≤ i → (rest : Answer (List Entry)) →
    steps_read (set requests i q) n rest ≡ steps_read requests n rest
unfolding steps_read
stored_after requests i q zero h rest = refl
stored_after requests i q (suc n) h rest =
    rw (get_or-set_other requests i n q 0 (λ e. omega arith))
    (stored_after requests i q n (omega arith) (then_read (Step (get_or requests n 0)) rest))

module _ (body : List ℕ) where
  -- a row of one step
  pub first_row :
      (requests : List ℕ) (first : ℕ) → length requests ≡ 4096 → Begins body first →
      Gathered body (set requests 0 first) 1
  unfolding steps_read
  first_row requests first room begins =
      record {
        some = omega arith;
        most = omega arith;
        within = begins.fits;
        fit = λ k some less. absurd (omega arith);
        reads =
            rw (get_or-set_same requests 0 first 0 (omega arith))
            begins.reads;
      }

  -- .. of a step more
  pub more_row :
      (requests : List ℕ) (count q : ℕ) → length requests ≡ 4096 → Gathered body requests count →
      StepAt body (2 * count) q → count < 4096 → Gathered body (set requests count q) (count + 1)
  unfolding steps_read
  more_row requests count q room row step less =
      let same : get_or (set requests count q) count 0 ≡ q = get_or-set_same requests count q 0 (omega arith) in
      let next : 2 * (count + 1) ≡ 2 * count + 2 = omega arith in
      let rest = entries_of (drop (2 * count + 2) body) in
      record {
        some = omega arith;
        most = omega arith;
        within = omega (arith, step.within, step.begins.fits, length-drop (2 * count) body);
        fit = λ k some less. below_more
            (λ j. 0 < j → names_only_sources (get_or (set requests count q) j 0) ≡ true) count
            (λ j h some. ap names_only_sources (get_or-set_other requests count j q 0 (λ e. omega arith))
            ∙ row.fit j some h)
            (λ some. ap names_only_sources same ∙ step.names) k less some;
        reads =
            row.reads
            ∙ ap (steps_read requests count)
            (step.begins.reads ∙ ap (λ (b : List ℕ). then_read (Step q) (entries_of b)) (drop-drop 2 (2 * count) body))
            ∙ sym (stored_after requests count q count (omega arith) (then_read (Step q) rest))
            ∙ rw (next, add-one count, same) refl;
      }

-- the rest of a body behind a row
pub rest_read :
    (requests : List ℕ) (n : ℕ) (rest : Answer (List Entry)) → is_read (steps_read requests n rest) ≡ is_read rest
unfolding steps_read
rest_read requests zero rest = refl
rest_read requests (suc n) rest =
    rest_read requests n (then_read (Step (get_or requests n 0)) rest) ∙ read_after (Step (get_or requests n 0)) rest
