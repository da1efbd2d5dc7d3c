-- Rows of fields in lists.
use Prim.Native.Nat.{ℕ, ◌≤◌, ◌<◌}
use native.Mathlib.Omega.{arith}
use mathlib.Core.Path.{◌≡◌, refl, sym, ap, ◌∙◌}
use mathlib.Core.Bool.{Bool, true, false}
use mathlib.Core.List.{List}
use lib.ListN.{length, get_or, take}
use lib.Seq.{length-take-le, get_or-take, ext_get_or}
use borrow.Author.Tests.{eqb-true, eq-eqb}
use Rattle.std.specs.Bool.{Decides}
use Rattle.isa.specs.declared.Operand.{Operand}
use Rattle.isa.specs.declared.Operand.TheVariants.{Direct, Short, ThroughX, ThroughY}
use Rattle.isa.specs.declared.Instruction.{Instruction}
use Rattle.isa.specs.declared.Instruction.TheVariants as I
use Rattle.exports.specs.Every.{every}
use Rattle.exports.specs.Fields.{operand_row, packed_instruction, agree}
use Rattle.exports.proofs.Every.{every_when, every_holds}

-- every row has seven fields
on_seven : (form : ℕ) (o : Operand) → length (operand_row form o) ≡ 7
on_seven form (Direct a) = refl
on_seven form (Short n) = refl
on_seven form ThroughX = refl
on_seven form ThroughY = refl

pub seven : (i : Instruction) → length (packed_instruction i) ≡ 7
unfolding packed_instruction
seven (I.Jrnz d) = refl
seven (I.Jrnc d) = refl
seven (I.Jrz d) = refl
seven (I.Jrc d) = refl
seven (I.Call t) = refl
seven (I.Jp t) = refl
seven (I.Jrr b a d) = refl
seven (I.Jrs b a d) = refl
seven (I.Res b a) = refl
seven (I.Set b a) = refl
seven (I.LoadA o) = on_seven 10 o
seven (I.StoreA o) = on_seven 11 o
seven (I.LoadAImmediate n) = refl
seven (I.LoadImmediate a n) = refl
seven (I.Inc o) = on_seven 14 o
seven (I.Dec o) = on_seven 15 o
seven (I.Add o) = on_seven 16 o
seven (I.AddImmediate n) = refl
seven (I.Sub o) = on_seven 18 o
seven (I.SubImmediate n) = refl
seven (I.And o) = on_seven 20 o
seven (I.AndImmediate n) = refl
seven (I.Cp o) = on_seven 22 o
seven (I.CpImmediate n) = refl
seven I.Com = refl
seven I.Rlc = refl
seven I.Ret = refl
seven I.Reti = refl
seven I.Stop = refl
seven I.Wait = refl

-- lists that agree in their first n elements
when_agree : (s t : List ℕ) (n : ℕ) → every (agree s t) n ≡ true → (k : ℕ) → k < n → get_or s k 0 ≡ get_or t k 0
when_agree s t n e k h = eqb-true (get_or s k 0) (get_or t k 0) (every_holds (agree s t) n e k h)

-- a list that agrees with a row begins with it
pub front_is : (s row : List ℕ) → length row ≡ 7 → 7 ≤ length s → every (agree s row) 7 ≡ true → take 7 s ≡ row
front_is s row seven long e =
    let size : length (take 7 s) ≡ 7 = length-take-le 7 s long in
    ext_get_or 0 (take 7 s) row (size ∙ sym seven)
    (λ k h. let below : k < 7 = omega arith in get_or-take 7 s k 0 below ∙ when_agree s row 7 e k below)

-- what `==` says of a list's front and a row
pub same_front : (s row : List ℕ) → length row ≡ 7 → 7 ≤ length s → (b : Bool) → Decides b (take 7 s ≡ row)
    → b ≡ every (agree s row) 7
same_front s row seven long true d =
    sym (every_when (agree s row) 7
    (λ k h. eq-eqb _ _ (sym (get_or-take 7 s k 0 h) ∙ ap (λ l. get_or l k 0) (d.0 refl))))
same_front s row seven long false d = by_test (every (agree s row) 7) refl
  where
    by_test : (t : Bool) → every (agree s row) 7 ≡ t → false ≡ t
    by_test false e = refl
    by_test true e = d.1 (front_is s row seven long e)
