-- Data bytes that differ at most under the ROM window read alike, and still do after a store; and no store changes
-- those under the window.
use Prim.Native.Nat.{ℕ}
use mathlib.Core.Path.{◌≡◌, refl, sym, ap, ◌∙◌}
use mathlib.Core.Bool.{Bool, true, false, cond}
use mathlib.Core.List.{List}
use native.Mathlib.Omega.{arith}
use Rattle.std.proofs.lemmas.Grind.{common_steps}
use lib.ListN.{length-set, get_or, set}
use lib.Seq.{get_or-set_other}
use Rattle.isa.specs.Rom.{rom_at, space_of}
use Rattle.isa.specs.declared.Operand.{Operand}
use Rattle.isa.specs.declared.Operand.TheVariants.{Direct, Short, ThroughX, ThroughY}
use Rattle.isa.specs.declared.Instruction.{Instruction}
use Rattle.std.specs.Prelude.{Option, Some, None}
use Rattle.data.specs.Space.{
  program_of,
  in_window,
  is_write_only,
  shown_of,
  window_address,
  read_of,
  origin_of,
  store_of,
  address_of,
  operand_of,
}
use Rattle.data.specs.Reads.{operand_read_of, origin_at, origin_read_of}
use Rattle.data.specs.UnderWindow.{SameButUnder, SameUnder}

pub same_bytes : (bytes : List ℕ) → SameButUnder bytes bytes
same_bytes bytes = record { size = refl; elsewhere = λ a e. refl }

module _ (b b' : List ℕ) (same : SameButUnder b b') where
  pub same_program : (image : List ℕ) → program_of image b ≡ program_of image b'
  same_program image = ap (space_of image) (same.elsewhere 0xCA refl)

  pub same_address : (o : Operand) → address_of b o ≡ address_of b' o
  unfolding address_of
  same_address (Direct a) = refl
  same_address (Short n) = refl
  same_address ThroughX = same.elsewhere 0x80 refl
  same_address ThroughY = same.elsewhere 0x81 refl

  by_window :
      (image : List ℕ) (a : ℕ) (w : Bool) → in_window a ≡ w →
      cond (is_write_only a) 0 (cond w (shown_of (rom_at image (window_address b a))) (get_or b a 0))
      ≡ cond (is_write_only a) 0 (cond w (shown_of (rom_at image (window_address b' a))) (get_or b' a 0))
  by_window image a true e = rw (same.elsewhere 0xC9 refl)
  by_window image a false e = rw (same.elsewhere a e)

  pub same_read : (image : List ℕ) (a : ℕ) → read_of image b a ≡ read_of image b' a
  unfolding read_of
  same_read image a = by_window image a (in_window a) refl

  pub same_operand : (image : List ℕ) (o : Operand) → operand_of image b o ≡ operand_of image b' o
  unfolding operand_of
  same_operand image o = rw (same_address o) (same_read image (address_of b' o))

  pub same_origin : (image : List ℕ) (a : ℕ) → origin_of image b a ≡ origin_of image b' a
  unfolding origin_of
  same_origin image a = rw (same.elsewhere 0xC9 refl)

  by_operand : (image : List ℕ) (r : Option Operand) → origin_at image b r ≡ origin_at image b' r
  by_operand image (Some o) = rw (same_address o, same_origin image (address_of b' o))
  by_operand image None = refl

  pub same_origin_read : (image : List ℕ) (i : Instruction) → origin_read_of image b i ≡ origin_read_of image b' i
  unfolding origin_read_of
  same_origin_read image i = by_operand image (operand_read_of i)

  -- where a byte is set, wherever that is
  module _ (a value : ℕ) where
    pub same_set : SameButUnder (set b a value) (set b' a value)
    same_set = record {
      size = length-set b a value ∙ same.size ∙ sym (length-set b' a value);
      elsewhere = λ k e. grind (arith, common_steps, same.elsewhere k e, same.size);
    }

    by_test : (w : Bool) → SameButUnder (cond w b (set b a value)) (cond w b' (set b' a value))
    by_test true = same
    by_test false = same_set

    pub same_store : SameButUnder (store_of b a value) (store_of b' a value)
    unfolding store_of
    same_store = by_test (in_window a)

-- an address in the window is no other
apart : (k a : ℕ) → in_window k ≡ true → in_window a ≡ false → k ≡ a → ⊥
apart k a e f same = let z : ◌≡◌ {A = ℕ} 0 1 = cc in omega arith

module _ (b : List ℕ) (a value : ℕ) where
  pub kept_by_set : in_window a ≡ false → SameUnder b (set b a value)
  kept_by_set out k e = sym (get_or-set_other b a k value 0 (apart k a e out))

  by_window_test : (w : Bool) → in_window a ≡ w → SameUnder b (cond w b (set b a value))
  by_window_test true e k under = refl
  by_window_test false e k under = kept_by_set e k under

  pub kept_by_store : SameUnder b (store_of b a value)
  unfolding store_of
  kept_by_store = by_window_test (in_window a) refl
