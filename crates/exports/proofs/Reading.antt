-- Fields are read as the one instruction whose row they are.
use Prim.Native.Nat.{ℕ, ◌≤◌}
use mathlib.Core.Path.{◌≡◌, refl}
use mathlib.Core.Bool.{Bool, true, false, cond, ◌&&◌, and-eq-true_iff}
use mathlib.Core.List.{List, ◌++◌}
use native.Mathlib.Omega.{arith}
use borrow.Author.Tests.{ltb-true, leb-true, eq-eqb, le-leb}
use lib.Dec.{leb}
use lib.IntN.{ℤ}
use lib.Signed.{mag}
use lib.ListN.{length, length-append, get_or-append}
use Rattle.isa.specs.Displacement.{modulo, long_displacement}
use Rattle.isa.specs.Encode.{in_field}
use Rattle.isa.specs.declared.Operand.TheVariants.{Direct, Short, ThroughX, ThroughY}
use Rattle.isa.specs.declared.Instruction.{Instruction}
use Rattle.isa.specs.declared.Instruction.TheVariants as I
use Rattle.isa.proofs.Finite.{eq_z, at_signed, eq_z→eq}
use Rattle.std.specs.Prelude.{Some, None}
use Rattle.exports.specs.Every.{every}
use Rattle.exports.specs.Fields.{packed_instruction, operand_by, instructions, instruction_by, instruction_at, agree, unpacked_instruction}
use Rattle.exports.specs.Laws.{displacement_of, FieldsInvert}
use Rattle.exports.proofs.Every.{every_when}
use Rattle.exports.proofs.Rows.{seven, front_is}
use Rattle.exports.proofs.Inverse.{number_back}

displacement_back : (d : ℤ) → in_field 8 d ≡ true → long_displacement (modulo 256 d) ≡ d
displacement_back d fits =
    eq_z→eq (long_displacement (modulo 256 d)) d
    (at_signed (λ z. eq_z (long_displacement (modulo 256 z)) z) tt d (record { sfits = ltb-true (mag d) 128 fits }))

back : (i : Instruction) → in_field 8 (displacement_of i) ≡ true → (more : List ℕ)
    → instruction_at (packed_instruction i ++ more) ≡ i
unfolding packed_instruction instruction_at instruction_by instructions operand_by
back (I.Jrnz d) fits more = rw (displacement_back d fits)
back (I.Jrnc d) fits more = rw (displacement_back d fits)
back (I.Jrz d) fits more = rw (displacement_back d fits)
back (I.Jrc d) fits more = rw (displacement_back d fits)
back (I.Call target) fits more = rw (number_back target)
back (I.Jp target) fits more = rw (number_back target)
back (I.Jrr bit a d) fits more = rw (displacement_back d fits)
back (I.Jrs bit a d) fits more = rw (displacement_back d fits)
back (I.Res bit a) fits more = refl
back (I.Set bit a) fits more = refl
back (I.LoadA (Direct n)) fits more = refl
back (I.LoadA (Short n)) fits more = refl
back (I.LoadA ThroughX) fits more = refl
back (I.LoadA ThroughY) fits more = refl
back (I.StoreA (Direct n)) fits more = refl
back (I.StoreA (Short n)) fits more = refl
back (I.StoreA ThroughX) fits more = refl
back (I.StoreA ThroughY) fits more = refl
back (I.LoadAImmediate n) fits more = refl
back (I.LoadImmediate a n) fits more = refl
back (I.Inc (Direct n)) fits more = refl
back (I.Inc (Short n)) fits more = refl
back (I.Inc ThroughX) fits more = refl
back (I.Inc ThroughY) fits more = refl
back (I.Dec (Direct n)) fits more = refl
back (I.Dec (Short n)) fits more = refl
back (I.Dec ThroughX) fits more = refl
back (I.Dec ThroughY) fits more = refl
back (I.Add (Direct n)) fits more = refl
back (I.Add (Short n)) fits more = refl
back (I.Add ThroughX) fits more = refl
back (I.Add ThroughY) fits more = refl
back (I.AddImmediate n) fits more = refl
back (I.Sub (Direct n)) fits more = refl
back (I.Sub (Short n)) fits more = refl
back (I.Sub ThroughX) fits more = refl
back (I.Sub ThroughY) fits more = refl
back (I.SubImmediate n) fits more = refl
back (I.And (Direct n)) fits more = refl
back (I.And (Short n)) fits more = refl
back (I.And ThroughX) fits more = refl
back (I.And ThroughY) fits more = refl
back (I.AndImmediate n) fits more = refl
back (I.Cp (Direct n)) fits more = refl
back (I.Cp (Short n)) fits more = refl
back (I.Cp ThroughX) fits more = refl
back (I.Cp ThroughY) fits more = refl
back (I.CpImmediate n) fits more = refl
back I.Com fits more = refl
back I.Rlc fits more = refl
back I.Ret fits more = refl
back I.Reti fits more = refl
back I.Stop fits more = refl
back I.Wait fits more = refl

-- a row in front of more
in_front : (t more : List ℕ) → length t ≡ 7 → every (agree (t ++ more) t) 7 ≡ true
in_front t more e = every_when (agree (t ++ more) t) 7 (λ k h. eq-eqb _ _ (get_or-append t more 0 k (omega arith)))

is_read_lem : (b : Bool) (i j : Instruction) → cond b (Some i) None ≡ Some j → (b ≡ true) × (i ≡ j)
is_read_lem true i j e = (refl, cc)
is_read_lem false i j e = let z : ◌≡◌ {A = ℕ} 0 1 = cc in absurd (omega arith)

pub fields_invert : FieldsInvert
unfolding unpacked_instruction
fields_invert = record {
  read_row = λ i fits more.
      let long : 7 ≤ length (packed_instruction i ++ more) = simp length-append (omega (arith, seven i)) in
      rw (
        back i fits more,
        le-leb 7 (length (packed_instruction i ++ more)) long,
        in_front (packed_instruction i) more (seven i),
      );
  row_read = λ s i e.
      let p : (leb 7 (length s) && every (agree s (packed_instruction (instruction_at s))) 7 ≡ true)
      × (instruction_at s ≡ i) = is_read_lem _ _ _ e in
      let q : (leb 7 (length s) ≡ true) × (every (agree s (packed_instruction (instruction_at s))) 7 ≡ true) =
      (and-eq-true_iff _ _).0 p.0 in
      front_is s (packed_instruction i) (seven i) (leb-true 7 (length s) q.0) (rw p.1 at q.1);
}
