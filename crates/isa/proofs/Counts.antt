-- The map's counts and its undefined opcodes, each computed over all 256 opcodes.
use mathlib.Core.Path.{◌≡◌, refl}
use mathlib.Core.Bool.{true, cond}
use Prim.Native.Nat.{ℕ, ◌<◌}
use lib.Dec.{T, eqb, eqb→eq}
use Rattle.isa.specs.Table.{bytes_of, cycles_of}
use Rattle.isa.specs.Map.{entry_of, form_of, form_as}
use Rattle.isa.specs.Counts.{Counts, UndefinedListed, is_undefined, member, undefined_opcodes}
use Rattle.isa.proofs.Finite.{all, at, eq_b, eq_b→eq}

pub counts : Counts
unfolding entry_of bytes_of cycles_of form_of form_as
counts =
    record {
      of_all = refl;
      of_one_byte = refl;
      of_two_bytes = refl;
      of_three_bytes = refl;
      of_two_cycles = refl;
      of_four_cycles = refl;
      of_five_cycles = refl;
    }

-- a function is 0 at each listed opcode
zero_listed :
    (f : ℕ → ℕ) → T (all (λ k. cond (member k undefined_opcodes) (eqb (f k) 0) true) 256) → (k : ℕ) → k < 256 →
    member k undefined_opcodes ≡ true → f k ≡ 0
zero_listed f t k h e =
    eqb→eq (f k) 0 (rw e at (at (λ k. cond (member k undefined_opcodes) (eqb (f k) 0) true) 256 t k h))

pub undefined_listed : UndefinedListed
unfolding entry_of bytes_of cycles_of form_of form_as
undefined_listed =
    record {
      exactly =
          λ k f s h. eq_b→eq (is_undefined (form_of k f s)) (member k undefined_opcodes)
          (at (λ j. eq_b (is_undefined (form_of j f s)) (member j undefined_opcodes)) 256 tt k h);
      no_length = zero_listed (λ k. bytes_of (entry_of k)) tt;
      no_cycles = zero_listed (λ k. cycles_of (entry_of k)) tt;
    }
