-- Laws of lines.
use Prim.Native.Nat.{ℕ, suc, ◌+◌, ◌-◌, ◌≤◌, ◌<◌}
use native.Mathlib.Omega.{arith}
use mathlib.Core.Path.{◌≡◌, refl, sym, ap, ◌∙◌}
use mathlib.Core.Bool.{Bool, true, false, cond}
use mathlib.Core.List.{List, [], ◌∷◌, ◌++◌}
use lib.Dec.{eqb, ltb}
use lib.ListN.{length, take, drop, get_or, length-append}
use lib.Seq.{take_at, get_or_at}
use borrow.Author.Tests.{eq-eqb, ne_eqb, ltb-true, ltb-false}
use Rattle.std.specs.Prelude.{None, Some, position, not}
use Rattle.std.specs.List.{position_or_len}
use Rattle.std.specs.Option.{option_map_or}
use Rattle.intel_hex.specs.Lines.{before, lines_of, line_size, without_last}

-- the first line's size: one more than what stands before its end, or all where there is none
found_more :
    (b : Bool) (size at most : ℕ) → (at < most → size ≡ at + 1) → cond (not b) (1 + at) 0 < suc most
    → cond b 1 (suc size) ≡ cond (not b) (1 + at) 0 + 1
found_more true size at most f h = refl
found_more false size at most f h = let one : size ≡ at + 1 = f (omega arith) in omega arith

all_more :
    (b : Bool) (size at most : ℕ) → (most ≤ at → size ≡ most) → suc most ≤ cond (not b) (1 + at) 0
    → cond b 1 (suc size) ≡ suc most
all_more true size at most f h = absurd (omega arith)
all_more false size at most f h = let one : size ≡ most = f (omega arith) in omega arith

-- a character that ends a line
abbrev pub is_end : ℕ → Bool
is_end c = eqb c 10

size_found :
    (text : List ℕ) → position_or_len is_end text < length text → line_size text ≡ position_or_len is_end text + 1
unfolding line_size
size_found [] h = absurd (omega arith)
size_found (c ∷ rest) h =
    found_more (eqb c 10) (line_size rest) (position_or_len is_end rest) (length rest) (size_found rest) h

size_all : (text : List ℕ) → length text ≤ position_or_len is_end text → line_size text ≡ length text
unfolding line_size
size_all [] h = refl
size_all (c ∷ rest) h =
    all_more (eqb c 10) (line_size rest) (position_or_len is_end rest) (length rest) (size_all rest) h

pub size_by_end : (text : List ℕ) → option_map_or (λ at. at + 1) (position is_end text) (length text) ≡ line_size text
size_by_end text = by (ltb (position_or_len is_end text) (length text)) refl
  where
    by : (b : Bool) → ltb (position_or_len is_end text) (length text) ≡ b
        → option_map_or (λ at. at + 1) (cond b (Some (position_or_len is_end text)) None) (length text) ≡ line_size text
    by true e = sym (size_found text (ltb-true _ _ e))
    by false e = sym (size_all text (ltb-false _ _ e))

-- a text that is not empty is its first line, and the lines after it
one_more :
    (t : Bool) (c : ℕ) (text : List ℕ)
    → lines_of text ≡ take (line_size text) text ∷ lines_of (drop (line_size text) text)
    → cond t ((c ∷ []) ∷ lines_of text) (before c (lines_of text))
    ≡ take (cond t 1 (suc (line_size text))) (c ∷ text) ∷ lines_of (drop (cond t 1 (suc (line_size text))) (c ∷ text))
one_more true c text e = refl
one_more false c text e = ap (before c) e

only : (t : Bool) (c : ℕ) →
    cond t ((c ∷ []) ∷ []) (before c []) ≡ take (cond t 1 1) (c ∷ []) ∷ lines_of (drop (cond t 1 1) (c ∷ []))
unfolding lines_of
only true c = refl
only false c = refl

first : (c : ℕ) (rest : List ℕ) →
    lines_of (c ∷ rest)
    ≡ take (line_size (c ∷ rest)) (c ∷ rest) ∷ lines_of (drop (line_size (c ∷ rest)) (c ∷ rest))
unfolding lines_of line_size
first c [] = only (eqb c 10) c
first c (d ∷ rest) = one_more (eqb c 10) c (d ∷ rest) (first d rest)

pub first_line :
    (text : List ℕ) → 0 < length text
    → lines_of text ≡ take (line_size text) text ∷ lines_of (drop (line_size text) text)
first_line [] h = absurd (omega arith)
first_line (c ∷ rest) h = first c rest

-- the first line's size: not 0, and within the text
bounds : (t : Bool) (n m : ℕ) → n ≤ m → (0 < cond t 1 (suc n)) × (cond t 1 (suc n) ≤ suc m)
bounds true n m h = (omega arith, omega arith)
bounds false n m h = (omega arith, omega arith)

pub size_within : (text : List ℕ) → line_size text ≤ length text
unfolding line_size
size_within [] = omega arith
size_within (c ∷ rest) = (bounds (eqb c 10) (line_size rest) (length rest) (size_within rest)).1

pub size_some : (text : List ℕ) → 0 < length text → 0 < line_size text
unfolding line_size
size_some [] h = absurd (omega arith)
size_some (c ∷ rest) h = (bounds (eqb c 10) (line_size rest) (length rest) (size_within rest)).0

-- the last byte taken off, or not
kept : (t : Bool) → cond {A = List ℕ} t [] [] ≡ []
kept true = refl
kept false = refl

pub none_off : (last : ℕ) (bytes : List ℕ) → length bytes ≡ 0 → bytes ≡ without_last last bytes
unfolding without_last
none_off last [] h = sym (kept (eqb 0 last))
none_off last (b ∷ bytes) h = absurd (omega arith)

pub last_off : (last : ℕ) (less : List ℕ) → less ≡ without_last last (less ++ (last ∷ []))
unfolding without_last
last_off last less =
    let size : length (less ++ (last ∷ [])) - 1 ≡ length less = omega (arith, length-append less (last ∷ [])) in
    rw (
      get_or_at less last [] 0 (length (less ++ (last ∷ [])) - 1) (sym size),
      eq-eqb last last refl,
      take_at less (last ∷ []) (length (less ++ (last ∷ [])) - 1) (sym size),
    )

pub stays :
    (last : ℕ) (bytes : List ℕ) → (get_or bytes (length bytes - 1) 0 ≡ last → ⊥) → bytes ≡ without_last last bytes
unfolding without_last
stays last bytes e = rw (ne_eqb _ _ e)

pub last_stays :
    (last end : ℕ) (less bytes : List ℕ) → bytes ≡ less ++ (end ∷ []) → (end ≡ last → ⊥)
    → bytes ≡ without_last last bytes
last_stays last end less bytes is ne =
    let size : length bytes - 1 ≡ length less = omega (arith, ap length is, length-append less (end ∷ [])) in
    let found : get_or bytes (length bytes - 1) 0 ≡ end =
    ap (λ (l : List ℕ). get_or l (length bytes - 1) 0) is ∙ get_or_at less end [] 0 (length bytes - 1) (sym size) in
    stays last bytes (λ e. ne (sym found ∙ e))
