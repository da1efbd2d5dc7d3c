-- The byte that a step tells of matters: for each form and kind of operand two machines that differ in it alone, and do
-- not step alike. Which they are is computed.
use Prim.Native.Nat.{ℕ}
use mathlib.Core.Path.{◌≡◌, refl, sym, ap, ◌∙◌}
use mathlib.Core.Logic.{◌⊎◌, inl, inr}
use mathlib.Core.Bool.{Bool, true, false, cond, not, ◌&&◌, ◌||◌}
use mathlib.Core.List.{List}
use native.Mathlib.Omega.{arith}
use borrow.Author.Tests.{eqb-true, eqb-false, ltb-true, ltb-false, eq-eqb}
use lib.IntN.{pos}
use lib.Dec.{eqb, ltb}
use lib.ListN.{length, get_or, set, replicate}
use lib.Seq.{get_or-set_same, get_or-set_other, set_out, length-sets}
use lib.Seq as seq
use Rattle.alu.specs.declared.Flags.{Flags}
use Rattle.isa.specs.Refusals.{Answer, done}
use Rattle.std.specs.Prelude.{Option, Some, None}
use Rattle.isa.specs.Map
use Rattle.isa.specs.Table
use Rattle.isa.specs.Rom
use Rattle.isa.specs.Rom.{is_image}
use Rattle.isa.specs.Decode
use Rattle.isa.specs.ControlFlow
use Rattle.isa.specs.Encode.{encode_of, bytes}
use Rattle.isa.specs.declared.Operand.{Operand}
use Rattle.isa.specs.declared.Source.{Source}
use Rattle.isa.specs.declared.Operand.TheVariants.{Direct, Short, ThroughX, ThroughY}
use Rattle.isa.specs.declared.Instruction.{Instruction}
use Rattle.isa.specs.declared.Instruction.TheVariants as I
use Rattle.data.specs.Space.{program_of, in_window, read_of, store_of, address_of, operand_of}
use Rattle.data.specs.Effect.{store_result_of, effect_of}
use Rattle.data.specs.Reads.{operand_read_of}
use Rattle.control.specs.Transfers
use Rattle.control.specs.Requests
use Rattle.control.specs.WellFormed
use Rattle.control.specs.declared.Mode.TheVariants.{Normal}
use Rattle.machine.specs.declared.Machine.{Machine}
use Rattle.machine.specs.Execute.{execute_of}
use Rattle.machine.specs.State.{machine_of, cleared_pairs, with_byte}
use Rattle.machine.specs.Step as stepping
use Rattle.machine.specs.Step.{Step, step_of}
use Rattle.machine.specs.OriginTold.{Storing, nothing, byte, stored_by, StepsAlike, Matters}
use Rattle.machine.specs.OriginTold.{SameKind, direct, short, through_x, through_y}
use Rattle.machine.specs.OriginTold.{
  SameForm,
  loads,
  increments,
  decrements,
  adds,
  subtracts,
  ands,
  compares,
  sets,
  resets,
  jumps_reset,
  jumps_set,
}
use Rattle.machine.proofs.ReadForms.{ReadForm, read_form}
use Rattle.machine.proofs.ReadForms as read

-- two flag pairs differ
abbrev unlike : (a b : Bool) → Bool
unlike true b = not b
unlike false b = b

abbrev flags_apart : Flags → Flags → Bool
flags_apart f g = unlike f.zero g.zero || unlike f.carry g.carry

-- a byte changed in one step or the other, and is not the same after both
abbrev byte_apart : (before before' after after' : ℕ) → Bool
byte_apart b b' a a' = not (eqb a a') && not (eqb a b && eqb a' b')

abbrev apart : (k : ℕ) (m m' : Machine) (s s' : Step) → Bool
apart k m m' s s' =
    flags_apart s.machine.flags.normal s'.machine.flags.normal
    || byte_apart (get_or m.bytes k 0) (get_or m'.bytes k 0) (get_or s.machine.bytes k 0)
    (get_or s'.machine.bytes k 0)

never : {P : Type 0} → ◌≡◌ {A = Bool} false true → P
never e = let z : ◌≡◌ {A = ℕ} 0 1 = cc in absurd (omega arith)

like_itself : (z c : Bool) → (unlike z z || unlike c c) ≡ false
like_itself true true = refl
like_itself true false = refl
like_itself false true = refl
like_itself false false = refl

same_flags : (f g : Flags) → f ≡ g → flags_apart f g ≡ false
same_flags f g e = rw e (like_itself g.zero g.carry)

-- one storing leaves the byte at a place as it was in any bytes, or makes it the same in all that are as long
at_place :
    (x : Storing) (k : ℕ) (b b' : List ℕ) → length b ≡ length b' →
    ((get_or (stored_by x b) k 0 ≡ get_or b k 0) × (get_or (stored_by x b') k 0 ≡ get_or b' k 0))
    ⊎ (get_or (stored_by x b) k 0 ≡ get_or (stored_by x b') k 0)
unfolding store_of
at_place nothing k b b' size = inl (refl, refl)
at_place (byte a v) k b b' size = by_tests (in_window a) (eqb k a) refl (ltb a (length b)) refl
  where
    by_tests :
        (w t : Bool) → eqb k a ≡ t → (inside : Bool) → ltb a (length b) ≡ inside →
        ((get_or (cond w b (set b a v)) k 0 ≡ get_or b k 0) × (get_or (cond w b' (set b' a v)) k 0 ≡ get_or b' k 0))
        ⊎ (get_or (cond w b (set b a v)) k 0 ≡ get_or (cond w b' (set b' a v)) k 0)
    by_tests true t e inside f = inl (refl, refl)
    by_tests false false e inside f =
        inl (get_or-set_other b a k v 0 (eqb-false k a e), get_or-set_other b' a k v 0 (eqb-false k a e))
    by_tests false true e false f =
        inl (
          ap (λ (l : List ℕ). get_or l k 0) (set_out b a v (ltb-false a (length b) f)),
          ap (λ (l : List ℕ). get_or l k 0) (set_out b' a v (omega (arith, ltb-false a (length b) f, size))),
        )
    by_tests false true e true f =
        inr (rw (eqb-true k a e)
        (get_or-set_same b a v 0 (ltb-true a (length b) f)
        ∙ sym (get_or-set_same b' a v 0 (omega (arith, ltb-true a (length b) f, size)))))

same_byte :
    (b b' a a' : ℕ) → ((a ≡ b) × (a' ≡ b')) ⊎ (a ≡ a') → byte_apart b b' a a' ≡ false
same_byte b b' a a' (inl (e, e')) = rw (eq-eqb a b e, eq-eqb a' b' e') (and_false (not (eqb a a')))
  where
    and_false : (t : Bool) → (t && false) ≡ false
    and_false true = refl
    and_false false = refl
same_byte b b' a a' (inr e) = rw (eq-eqb a a' e)

-- steps that are apart are not alike
not_alike :
    (k : ℕ) (m m' : Machine) (s s' : Step) → length m.bytes ≡ length m'.bytes → apart k m m' s s' ≡ true →
    StepsAlike m m' s s' → ⊥
not_alike k m m' s s' size is alike =
    let flags = same_flags s.machine.flags.normal s'.machine.flags.normal (rw alike.flags) in
    let bytes =
    same_byte (get_or m.bytes k 0) (get_or m'.bytes k 0) (get_or s.machine.bytes k 0)
    (get_or s'.machine.bytes k 0)
    (rw (alike.first, alike.second) (at_place alike.stores k m.bytes m'.bytes size)) in
    never (sym (rw (flags, bytes)) ∙ is)

-- the instruction stands at 880h of an image of 2K, the rest of which is 0
abbrev image_of : Instruction → List ℕ
image_of i = seq.sets (replicate 2048 0) 0x80 (bytes (encode_of i))

-- X and Y point to 10h, A is FFh, every other byte is 0
abbrev machine : Machine
machine =
    machine_of (record { pc = 0x880; levels = 0; mode = Normal; asleep = false }) (replicate 6 0) cleared_pairs
    (set (set (set (replicate 256 0) 0x80 0x10) 0x81 0x10) 0xFF 0xFF)

-- the same with FFh for the operand
abbrev other : Operand → Machine
other o = with_byte machine (address_of machine.bytes o) 0xFF

-- what is computed of an instruction there and its operand: whether the steps of the two machines are apart, what it is
-- told to read, that it stands at 880h for both, that no request is taken, and how many bytes they have
record Facts : Type 0 where
  differ : Bool
  told : Option Operand
  first : Answer Decode.Decoding
  second : Answer Decode.Decoding
  taken : Option Source
  size : ℕ

abbrev facts_of : Instruction → Operand → Facts
facts_of i o = record {
  differ =
      apart (address_of machine.bytes o) machine (other o) (step_of (image_of i) machine 0)
      (step_of (image_of i) (other o) 0);
  told = operand_read_of i;
  first = Decode.decode_at (program_of (image_of i) machine.bytes) 0x880;
  second = Decode.decode_at (program_of (image_of i) (other o).bytes) 0x880;
  taken = Requests.requested_of Normal (stepping.enabled_of (other o).bytes) 0;
  size = length (other o).bytes;
}

abbrev facts_for : Instruction → Operand → (long cycles : ℕ) → Facts
facts_for i o long cycles = record {
  differ = true;
  told = Some o;
  first = done (Decode.instruction i long cycles);
  second = done (Decode.instruction i long cycles);
  taken = None;
  size = 256;
}

-- a row of the table: an instruction of so many bytes and cycles of whose operand these facts hold
record Row (i : Instruction) (o : Operand) : Type 0 where
  long : ℕ
  cycles : ℕ
  facts : facts_of i o ≡ facts_for i o long cycles

abbrev row : {i : Instruction} {o : Operand} (long cycles : ℕ) → facts_of i o ≡ facts_for i o long cycles → Row i o
row long cycles facts = record { long = long; cycles = cycles; facts = facts }

module _ {i like : Instruction} {o : Operand} (same : SameForm i like) (r : Row like o) where
  size_of : is_image (length (image_of like)) ≡ true
  size_of = rw (length-sets (replicate 2048 0) 0x80 (bytes (encode_of like)))

  witness : Matters i
  unfolding WellFormed.well_formed WellFormed.addresses_fit Requests.requested_of Requests.serving_of
  witness = record {
    like = like;
    same_form = same;
    o = o;
    reads = ap (λ (f : Facts). f.told) r.facts;
    image = image_of like;
    m = machine;
    value = 0xFF;
    bytes = r.long;
    cycles = r.cycles;
    first = record {
      image_length = size_of;
      formed = refl;
      sources = refl;
      none_taken = refl;
      awake = refl;
      at_pc = ap (λ (f : Facts). f.first) r.facts;
    };
    second = record {
      image_length = size_of;
      formed = refl;
      sources = refl;
      none_taken = ap (λ (f : Facts). f.taken) r.facts;
      awake = refl;
      at_pc = ap (λ (f : Facts). f.second) r.facts;
    };
    differ =
        not_alike (address_of machine.bytes o) machine (other o) _ _ (sym (ap (λ (f : Facts). f.size) r.facts))
        (ap (λ (f : Facts). f.differ) r.facts);
  }

-- a form on an operand, by its kind; not every form can have a short one
on_operand_lem :
    (f : Operand → Instruction) → ((o p : Operand) → SameKind o p → SameForm (f o) (f p)) →
    Row (f (Direct 0x10)) (Direct 0x10) → Row (f ThroughX) ThroughX → Row (f ThroughY) ThroughY →
    ((n : ℕ) → (encode_of (f (Short n)) ≡ None → ⊥) → Row (f (Short 2)) (Short 2)) →
    (o : Operand) → (encode_of (f o) ≡ None → ⊥) → Matters (f o)
on_operand_lem f same d x y s (Direct a) w = witness (same _ _ (direct a 0x10)) d
on_operand_lem f same d x y s (Short n) w = witness (same _ _ (short n 2)) (s n w)
on_operand_lem f same d x y s ThroughX w = witness (same _ _ through_x) x
on_operand_lem f same d x y s ThroughY w = witness (same _ _ through_y) y

-- the table
by_form : (i : Instruction) (o : Operand) → (encode_of i ≡ None → ⊥) → ReadForm i o → Matters i
unfolding operand_read_of encode_of Map.entry_of Table.bytes_of Table.cycles_of Map.form_as Map.form_of Rom.space_of Rom.page_of
    Rom.fixed_of Rom.rom_at Rom.operand_at Decode.decode_at ControlFlow.flow_of Requests.requested_of Requests.serving_of
    address_of store_of read_of operand_of effect_of store_result_of execute_of Transfers.advance_of WellFormed.well_formed
    WellFormed.addresses_fit step_of stepping.action_of stepping.due_of stepping.unrequested_action stepping.acted_of
    stepping.executed_of stepping.completed_of
by_form _ _ w (read.is_load o) =
    on_operand_lem (λ p. I.LoadA p) loads (row 2 4 refl) (row 1 4 refl) (row 1 4 refl) (λ n v. row 1 4 refl) o w
by_form _ _ w (read.is_inc o) =
    on_operand_lem (λ p. I.Inc p) increments (row 2 4 refl) (row 1 4 refl) (row 1 4 refl) (λ n v. row 1 4 refl) o w
by_form _ _ w (read.is_dec o) =
    on_operand_lem (λ p. I.Dec p) decrements (row 2 4 refl) (row 1 4 refl) (row 1 4 refl) (λ n v. row 1 4 refl) o w
by_form _ _ w (read.is_add o) =
    on_operand_lem (λ p. I.Add p) adds (row 2 4 refl) (row 1 4 refl) (row 1 4 refl) (λ n v. absurd (v refl)) o w
by_form _ _ w (read.is_sub o) =
    on_operand_lem (λ p. I.Sub p) subtracts (row 2 4 refl) (row 1 4 refl) (row 1 4 refl) (λ n v. absurd (v refl)) o w
by_form _ _ w (read.is_and o) =
    on_operand_lem (λ p. I.And p) ands (row 2 4 refl) (row 1 4 refl) (row 1 4 refl) (λ n v. absurd (v refl)) o w
by_form _ _ w (read.is_cp o) =
    on_operand_lem (λ p. I.Cp p) compares (row 2 4 refl) (row 1 4 refl) (row 1 4 refl) (λ n v. absurd (v refl)) o w
by_form _ _ w (read.is_set n a) = witness {o = Direct 0x10} (sets n 0 a 0x10) (row 2 4 refl)
by_form _ _ w (read.is_res n a) = witness {o = Direct 0x10} (resets n 0 a 0x10) (row 2 4 refl)
by_form _ _ w (read.is_jrr n a d) = witness {o = Direct 0x10} (jumps_reset n 0 a 0x10 d (pos 0)) (row 3 5 refl)
by_form _ _ w (read.is_jrs n a d) = witness {o = Direct 0x10} (jumps_set n 0 a 0x10 d (pos 0)) (row 3 5 refl)

-- it matters for each form in the table of what is read
pub matters :
    (i : Instruction) (o : Operand) → (encode_of i ≡ None → ⊥) → operand_read_of i ≡ Some o → Matters i
matters i o w e = by_form i o w (read_form i o e)
