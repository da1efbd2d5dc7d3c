-- What each instruction makes of the bytes that it uses: those that read a data operand, of A, the operand's byte and
-- address and the flags; all others, of A, X, Y and the flags.
use Prim.Native.Nat.{ℕ, ◌+◌, ◌%◌}
use mathlib.Core.Path.{◌≡◌, refl, ap}
use mathlib.Core.Bool.{Bool, true, false}
use mathlib.Core.List.{List}
use native.Mathlib.Omega.{arith}
use lib.ListN.{get_or}
use Rattle.alu.specs.declared.Flags.{Flags}
use Rattle.alu.specs.declared.Outcome.{Outcome}
use Rattle.alu.specs.Alu.{
  result_of,
  added_of,
  subtracted_of,
  anded_of,
  complemented_of,
  rotated_of,
  incremented_of,
  decremented_of,
  bit_of,
  with_bit_of,
  without_bit_of,
}
use Rattle.isa.specs.ControlFlow.{flow_of}
use Rattle.isa.specs.declared.Operand.{Operand}
use Rattle.isa.specs.declared.Operand.TheVariants.{Direct, Short, ThroughX, ThroughY}
use Rattle.isa.specs.declared.Instruction.{Instruction}
use Rattle.isa.specs.declared.Instruction.TheVariants as I
use Rattle.std.specs.Prelude.{Option, Some, None}
use Rattle.data.specs.Space.{address_of, operand_of}
use Rattle.data.specs.Effect.{Data, data_of, accumulator_of, store_result_of, effect_of}
use Rattle.data.specs.Reads.{operand_read_of}
use Rattle.control.specs.declared.Control.{Control}
use Rattle.control.specs.Transfers.{advance_of}
use Rattle.machine.specs.Execute.{agrees, jumps_of, execute_of}
use Rattle.machine.specs.OriginTold.{UsesA, add, sub, and, cp, Storing, nothing, byte, stored_by}

-- the forms that read, each with its operand
pub data ReadForm : Instruction → Operand → Type 0 where
  is_load : (o : Operand) → ReadForm (I.LoadA o) o
  is_add : (o : Operand) → ReadForm (I.Add o) o
  is_sub : (o : Operand) → ReadForm (I.Sub o) o
  is_and : (o : Operand) → ReadForm (I.And o) o
  is_cp : (o : Operand) → ReadForm (I.Cp o) o
  is_inc : (o : Operand) → ReadForm (I.Inc o) o
  is_dec : (o : Operand) → ReadForm (I.Dec o) o
  is_set : (n a : ℕ) → ReadForm (I.Set n a) (Direct a)
  is_res : (n a : ℕ) → ReadForm (I.Res n a) (Direct a)
  is_jrr : (n a : ℕ) (e : _) → ReadForm (I.Jrr n a e) (Direct a)
  is_jrs : (n a : ℕ) (e : _) → ReadForm (I.Jrs n a e) (Direct a)

none : {P : Type 0} (o : Operand) → ◌≡◌ {A = Option Operand} None (Some o) → P
none o e = let z : ◌≡◌ {A = ℕ} 0 1 = cc in absurd (omega arith)

-- .. are those of the table
pub read_form : (i : Instruction) (o : Operand) → operand_read_of i ≡ Some o → ReadForm i o
unfolding operand_read_of
read_form (I.LoadA p) o e = let same : p ≡ o = cc in rw same (is_load o)
read_form (I.Add p) o e = let same : p ≡ o = cc in rw same (is_add o)
read_form (I.Sub p) o e = let same : p ≡ o = cc in rw same (is_sub o)
read_form (I.And p) o e = let same : p ≡ o = cc in rw same (is_and o)
read_form (I.Cp p) o e = let same : p ≡ o = cc in rw same (is_cp o)
read_form (I.Inc p) o e = let same : p ≡ o = cc in rw same (is_inc o)
read_form (I.Dec p) o e = let same : p ≡ o = cc in rw same (is_dec o)
read_form (I.Set n a) o e = let same : o ≡ Direct a = cc in rw same (is_set n a)
read_form (I.Res n a) o e = let same : o ≡ Direct a = cc in rw same (is_res n a)
read_form (I.Jrr n a d) o e = let same : o ≡ Direct a = cc in rw same (is_jrr n a d)
read_form (I.Jrs n a d) o e = let same : o ≡ Direct a = cc in rw same (is_jrs n a d)
read_form (I.StoreA p) o e = none o e
read_form (I.LoadImmediate a v) o e = none o e
read_form (I.LoadAImmediate v) o e = none o e
read_form (I.AddImmediate v) o e = none o e
read_form (I.SubImmediate v) o e = none o e
read_form (I.AndImmediate v) o e = none o e
read_form (I.CpImmediate v) o e = none o e
read_form I.Com o e = none o e
read_form I.Rlc o e = none o e
read_form (I.Jrnz d) o e = none o e
read_form (I.Jrnc d) o e = none o e
read_form (I.Jrz d) o e = none o e
read_form (I.Jrc d) o e = none o e
read_form (I.Call target) o e = none o e
read_form (I.Jp target) o e = none o e
read_form I.Ret o e = none o e
read_form I.Reti o e = none o e
read_form I.Stop o e = none o e
read_form I.Wait o e = none o e

-- what is stored, and the flags after it
pub record Change : Type 0 where
  pub stores : Storing
  pub flags : Flags

abbrev change : Storing → Flags → Change
change stores flags = record { stores = stores; flags = flags }

abbrev result : ℕ → Outcome → Change
result a r = change (byte a r.value) r.flags

abbrev pub changed : Data → Change → Data
changed d x = data_of (stored_by x.stores d.bytes) x.flags

-- the effect and the jump of an instruction that reads: A counts only where it uses that; and it does not stop
pub record MadeOf (i : Instruction) (o : Operand) : Type 0 where
  pub change_of : (x v a : ℕ) → Flags → Change
  pub jumps : (v : ℕ) → Bool
  pub effect_is :
      (image : List ℕ) (d : Data) → effect_of image d i
      ≡ changed d
      (change_of (accumulator_of d.bytes) (operand_of image d.bytes o) (address_of d.bytes o) d.flags)
  pub jumps_is : (image : List ℕ) (d : Data) (pc : ℕ) → jumps_of image d (flow_of i pc) ≡ jumps (operand_of image d.bytes o)
  pub same : (x x' v a : ℕ) (f : Flags) → (UsesA i → x ≡ x') → change_of x v a f ≡ change_of x' v a f
  pub goes :
      (image : List ℕ) (d : Data) (stack : List ℕ) (c : Control) (next : ℕ) →
      (execute_of image d stack c i next).stop ≡ None

pub made_of : (i : Instruction) (o : Operand) → ReadForm i o → MadeOf i o
unfolding effect_of store_result_of operand_of address_of flow_of execute_of advance_of
made_of _ _ (is_load o) = record {
  change_of = λ x v a f. result 0xFF (result_of v f.carry);
  jumps = λ v. false;
  effect_is = λ image d. refl;
  jumps_is = λ image d pc. refl;
  same = λ x x' v a f e. refl;
  goes = λ image d stack c next. refl;
}
made_of _ _ (is_add o) = record {
  change_of = λ x v a f. result 0xFF (added_of x v);
  jumps = λ v. false;
  effect_is = λ image d. refl;
  jumps_is = λ image d pc. refl;
  same = λ x x' v a f e. ap (λ (y : ℕ). result 0xFF (added_of y v)) (e (add o));
  goes = λ image d stack c next. refl;
}
made_of _ _ (is_sub o) = record {
  change_of = λ x v a f. result 0xFF (subtracted_of x v);
  jumps = λ v. false;
  effect_is = λ image d. refl;
  jumps_is = λ image d pc. refl;
  same = λ x x' v a f e. ap (λ (y : ℕ). result 0xFF (subtracted_of y v)) (e (sub o));
  goes = λ image d stack c next. refl;
}
made_of _ _ (is_and o) = record {
  change_of = λ x v a f. result 0xFF (anded_of x v f.carry);
  jumps = λ v. false;
  effect_is = λ image d. refl;
  jumps_is = λ image d pc. refl;
  same = λ x x' v a f e. ap (λ (y : ℕ). result 0xFF (anded_of y v f.carry)) (e (and o));
  goes = λ image d stack c next. refl;
}
made_of _ _ (is_cp o) = record {
  change_of = λ x v a f. change nothing (subtracted_of x v).flags;
  jumps = λ v. false;
  effect_is = λ image d. refl;
  jumps_is = λ image d pc. refl;
  same = λ x x' v a f e. ap (λ (y : ℕ). change nothing (subtracted_of y v).flags) (e (cp o));
  goes = λ image d stack c next. refl;
}
made_of _ _ (is_inc o) = record {
  change_of = λ x v a f. result a (incremented_of v f.carry);
  jumps = λ v. false;
  effect_is = λ image d. refl;
  jumps_is = λ image d pc. refl;
  same = λ x x' v a f e. refl;
  goes = λ image d stack c next. refl;
}
made_of _ _ (is_dec o) = record {
  change_of = λ x v a f. result a (decremented_of v f.carry);
  jumps = λ v. false;
  effect_is = λ image d. refl;
  jumps_is = λ image d pc. refl;
  same = λ x x' v a f e. refl;
  goes = λ image d stack c next. refl;
}
made_of _ _ (is_set n a) = record {
  change_of = λ x v a f. change (byte a (with_bit_of v n)) f;
  jumps = λ v. false;
  effect_is = λ image d. refl;
  jumps_is = λ image d pc. refl;
  same = λ x x' v a f e. refl;
  goes = λ image d stack c next. refl;
}
made_of _ _ (is_res n a) = record {
  change_of = λ x v a f. change (byte a (without_bit_of v n)) f;
  jumps = λ v. false;
  effect_is = λ image d. refl;
  jumps_is = λ image d pc. refl;
  same = λ x x' v a f e. refl;
  goes = λ image d stack c next. refl;
}
made_of _ _ (is_jrr n a e) = record {
  change_of = λ x v a f. change nothing (record { zero = f.zero; carry = bit_of v n });
  jumps = λ v. agrees false (bit_of v n);
  effect_is = λ image d. refl;
  jumps_is = λ image d pc. refl;
  same = λ x x' v a f e. refl;
  goes = λ image d stack c next. refl;
}
made_of _ _ (is_jrs n a e) = record {
  change_of = λ x v a f. change nothing (record { zero = f.zero; carry = bit_of v n });
  jumps = λ v. agrees true (bit_of v n);
  effect_is = λ image d. refl;
  jumps_is = λ image d pc. refl;
  same = λ x x' v a f e. refl;
  goes = λ image d stack c next. refl;
}

-- the effect and the jump of an instruction that does not read
pub record MadeApart (i : Instruction) : Type 0 where
  pub change_of : (a x y : ℕ) → Flags → Change
  pub jumps : Flags → Bool
  pub effect_is :
      (image : List ℕ) (d : Data) → effect_of image d i
      ≡ changed d (change_of (accumulator_of d.bytes) (get_or d.bytes 0x80 0) (get_or d.bytes 0x81 0) d.flags)
  pub jumps_is : (image : List ℕ) (d : Data) (pc : ℕ) → jumps_of image d (flow_of i pc) ≡ jumps d.flags

-- one that goes on at the next address, after its change
abbrev on_data_lem :
    {i : Instruction} (change_of : (a x y : ℕ) → Flags → Change)
    → ((image : List ℕ) (d : Data) → effect_of image d i
    ≡ changed d (change_of (accumulator_of d.bytes) (get_or d.bytes 0x80 0) (get_or d.bytes 0x81 0) d.flags))
    → ((image : List ℕ) (d : Data) (pc : ℕ) → jumps_of image d (flow_of i pc) ≡ false) → MadeApart i
on_data_lem change_of effect_is jumps_is =
    record { change_of = change_of; jumps = λ f. false; effect_is = effect_is; jumps_is = jumps_is }

-- one that leaves data and flags
abbrev on_control :
    {i : Instruction} (jumps : Flags → Bool) → ((image : List ℕ) (d : Data) → effect_of image d i ≡ d)
    → ((image : List ℕ) (d : Data) (pc : ℕ) → jumps_of image d (flow_of i pc) ≡ jumps d.flags) → MadeApart i
on_control jumps effect_is jumps_is =
    record { change_of = λ a x y f. change nothing f; jumps = jumps; effect_is = effect_is; jumps_is = jumps_is }

some : {P : Type 0} (o : Operand) → ◌≡◌ {A = Option Operand} (Some o) None → P
some o e = let z : ◌≡◌ {A = ℕ} 0 1 = cc in absurd (omega arith)

pub made_apart : (i : Instruction) → operand_read_of i ≡ None → MadeApart i
unfolding operand_read_of effect_of store_result_of address_of flow_of
made_apart (I.StoreA (Direct at)) e =
    on_data_lem (λ a x y f. result at (result_of a f.carry)) (λ image d. refl) (λ image d pc. refl)
made_apart (I.StoreA (Short n)) e =
    on_data_lem (λ a x y f. result (0x80 + n % 4) (result_of a f.carry)) (λ image d. refl) (λ image d pc. refl)
made_apart (I.StoreA ThroughX) e =
    on_data_lem (λ a x y f. result x (result_of a f.carry)) (λ image d. refl) (λ image d pc. refl)
made_apart (I.StoreA ThroughY) e =
    on_data_lem (λ a x y f. result y (result_of a f.carry)) (λ image d. refl) (λ image d pc. refl)
made_apart (I.LoadImmediate at v) e =
    on_data_lem (λ a x y f. change (byte at v) f) (λ image d. refl) (λ image d pc. refl)
made_apart (I.LoadAImmediate v) e =
    on_data_lem (λ a x y f. result 0xFF (result_of v f.carry)) (λ image d. refl) (λ image d pc. refl)
made_apart (I.AddImmediate v) e = on_data_lem (λ a x y f. result 0xFF (added_of a v)) (λ image d. refl) (λ image d pc. refl)
made_apart (I.SubImmediate v) e =
    on_data_lem (λ a x y f. result 0xFF (subtracted_of a v)) (λ image d. refl) (λ image d pc. refl)
made_apart (I.AndImmediate v) e =
    on_data_lem (λ a x y f. result 0xFF (anded_of a v f.carry)) (λ image d. refl) (λ image d pc. refl)
made_apart (I.CpImmediate v) e =
    on_data_lem (λ a x y f. change nothing (subtracted_of a v).flags) (λ image d. refl) (λ image d pc. refl)
made_apart I.Com e = on_data_lem (λ a x y f. result 0xFF (complemented_of a)) (λ image d. refl) (λ image d pc. refl)
made_apart I.Rlc e = on_data_lem (λ a x y f. result 0xFF (rotated_of a f.carry)) (λ image d. refl) (λ image d pc. refl)
made_apart (I.Jrnz d) e = on_control (λ f. agrees false f.zero) (λ image d. refl) (λ image d pc. refl)
made_apart (I.Jrnc d) e = on_control (λ f. agrees false f.carry) (λ image d. refl) (λ image d pc. refl)
made_apart (I.Jrz d) e = on_control (λ f. agrees true f.zero) (λ image d. refl) (λ image d pc. refl)
made_apart (I.Jrc d) e = on_control (λ f. agrees true f.carry) (λ image d. refl) (λ image d pc. refl)
made_apart (I.Call target) e = on_control (λ f. false) (λ image d. refl) (λ image d pc. refl)
made_apart (I.Jp target) e = on_control (λ f. false) (λ image d. refl) (λ image d pc. refl)
made_apart I.Ret e = on_control (λ f. false) (λ image d. refl) (λ image d pc. refl)
made_apart I.Reti e = on_control (λ f. false) (λ image d. refl) (λ image d pc. refl)
made_apart I.Stop e = on_control (λ f. false) (λ image d. refl) (λ image d pc. refl)
made_apart I.Wait e = on_control (λ f. false) (λ image d. refl) (λ image d pc. refl)
made_apart (I.LoadA o) e = some o e
made_apart (I.Add o) e = some o e
made_apart (I.Sub o) e = some o e
made_apart (I.And o) e = some o e
made_apart (I.Cp o) e = some o e
made_apart (I.Inc o) e = some o e
made_apart (I.Dec o) e = some o e
made_apart (I.Set n a) e = some (Direct a) e
made_apart (I.Res n a) e = some (Direct a) e
made_apart (I.Jrr n a d) e = some (Direct a) e
made_apart (I.Jrs n a d) e = some (Direct a) e
