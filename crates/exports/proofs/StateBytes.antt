-- A state's bytes as mode and flags.
use Rattle.std.proofs.Common.{◌≡◌, ℕ, ◌+◌, ◌≢◌, ◌<◌, ◌≤◌, ◌↔◌, List, length, get_or, take, drop, Bool, true, false, IsTrue, EachIndex, arith, refl, sym, ◌∙◌, Result, Ok, Err, length-drop}
use Rattle.std.proofs.lemmas.List.{length-take-le, get_or-take}
use Rattle.std.specs.Result.{result_unwrap_or}
use borrow.Author.Tests.{ne_eqb, lt-ltb, ltb-true}
use lib.Seq.{get_or-drop}
use Rattle.control.specs.Modes.{ModeOf}
use Rattle.control.specs.declared.Mode.{Mode}
use Rattle.control.specs.declared.Mode.TheVariants.{Reset, Normal, Interrupt, NmiOverNormal, NmiOverInterrupt}
use Rattle.control.specs.declared.modes.UnknownMode.{UnknownMode}
use Rattle.exports.specs.Every.{every}
use Rattle.exports.specs.States.{is_flag, mode_of}
use Rattle.exports.proofs.Every.{every_when, every_holds}

-- the mode that has a number, and the last where none has
pub mode_of_lem : (n : ℕ) (r : Result Mode UnknownMode) → ModeOf n r → result_unwrap_or r NmiOverInterrupt ≡ mode_of n
unfolding mode_of
mode_of_lem n (Ok Reset) e = rw (← e)
mode_of_lem n (Ok Normal) e = rw (← e)
mode_of_lem n (Ok Interrupt) e = rw (← e)
mode_of_lem n (Ok NmiOverNormal) e = rw (← e)
mode_of_lem n (Ok NmiOverInterrupt) e = rw (← e)
mode_of_lem n (Err e) h =
    let a : n ≢ 0 = λ z. omega arith in
    let b : n ≢ 1 = λ z. omega arith in
    let c : n ≢ 2 = λ z. omega arith in
    let d : n ≢ 3 = λ z. omega arith in
    rw (ne_eqb n 0 a, ne_eqb n 1 b, ne_eqb n 2 c, ne_eqb n 3 d)

-- the test of the seven flags, looked at as a list of their own
module _ (s : List ℕ) (whole : length s ≡ 280) where
  abbrev seven : List ℕ
  seven = take 7 (drop 260 s)

  size : length seven ≡ 7
  size = let rest : 7 ≤ length (drop 260 s) = simp length-drop (omega arith) in length-take-le 7 (drop 260 s) rest

  stands : (k : ℕ) → k < 7 → get_or seven k 0 ≡ get_or s (260 + k) 0
  stands k h = get_or-take 7 (drop 260 s) k 0 h ∙ get_or-drop 260 s k 0

  pub flags_as_list : (b : Bool) → (IsTrue b ↔ EachIndex seven (λ k. get_or seven k 0 < 2)) → b ≡ every (is_flag s) 7
  flags_as_list true all =
      sym (every_when (is_flag s) 7 (λ k h. lt-ltb _ 2 (rw (← stands k h) (all.0 refl k (rw size h)))))
  flags_as_list false all = by_test (every (is_flag s) 7) refl
    where
      by_test : (t : Bool) → every (is_flag s) 7 ≡ t → false ≡ t
      by_test false e = refl
      by_test true e =
          all.1 (λ k l. let h : k < 7 = rw size at l in
          rw (stands k h) (ltb-true (get_or s (260 + k) 0) 2 (every_holds (is_flag s) 7 e k h)))
