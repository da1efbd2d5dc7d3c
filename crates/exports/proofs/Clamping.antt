-- A number beyond its range is refused as the one that stands in for it.
use Prim.Native.Nat.{ℕ}
use mathlib.Core.Path.{◌≡◌, refl, sym, ◌∙◌}
use mathlib.Core.Bool.{Bool, true, false, cond}
use mathlib.Core.List.{List}
use native.Mathlib.Omega.{arith}
use borrow.Author.Tests.{ltb-false, le-ltb}
use lib.Dec.{eqb, ltb}
use lib.ListN.{length}
use Rattle.isa.specs.Refusals.{plain, unless}
use Rattle.isa.specs.Rom.{is_image}
use Rattle.isa.specs.Sources.{names_only_sources}
use Rattle.isa.specs.Decode.{decode_at, decode_in}
use Rattle.data.specs.Space.{program_of}
use Rattle.data.specs.declared.Origin.{Origin}
use Rattle.std.specs.Prelude.{Option, None}
use Rattle.machine.specs.declared.Machine.{Machine}
use Rattle.machine.specs.State.{is_well_formed}
use Rattle.machine.specs.Actions.{refuses, action_of}
use Rattle.machine.specs.Step.{Step, acted_of, step_of}
use Rattle.machine.specs.Operands.{read_if_done, step_read_of}
use Rattle.certificate.specs.Levels.{levels_of}
use Rattle.certificate.specs.Findings.{fault}
use Rattle.certificate.specs.Check.{marks_in, verdict, check_of}
use Rattle.exports.specs.Lent.{stepped_lent}

step_by_lem : (image : List ℕ) (m : Machine) (n : ℕ) (b : Bool) → ltb n 256 ≡ b
    → step_of image m (cond b n 255) ≡ step_of image m n
unfolding step_of action_of
step_by_lem image m n true e = refl
step_by_lem image m n false e = rw (le-ltb n 32 (omega (arith, ltb-false n 256 e)))

step_clamped : (image : List ℕ) (m : Machine) (n : ℕ) → step_of image m (cond (ltb n 256) n 255) ≡ step_of image m n
step_clamped image m n = step_by_lem image m n (ltb n 256) refl

-- a step that is refused reads none, whatever the request
module _ (image : List ℕ) (m : Machine) where
  by_refusal :
      (read : Option Origin) (i w : Bool) →
      read_if_done
      (acted_of (program_of image m.bytes) m
      (unless i (refuses (plain 1)) (unless w (refuses (plain 2)) (refuses (plain 11))))).answer
      read
      ≡ None
  unfolding acted_of
  by_refusal read true true = refl
  by_refusal read true false = refl
  by_refusal read false w = refl

  none_read : (q : ℕ) → names_only_sources q ≡ false → step_read_of image m q ≡ None
  unfolding step_read_of step_of action_of
  none_read q e = rw e (by_refusal _ (is_image (length image)) (is_well_formed m))

  read_by : (n : ℕ) (b : Bool) → ltb n 256 ≡ b → step_read_of image m (cond b n 255) ≡ step_read_of image m n
  read_by n true e = refl
  read_by n false e = none_read 255 refl ∙ sym (none_read n (le-ltb n 32 (omega (arith, ltb-false n 256 e))))

  read_clamped : (n : ℕ) → step_read_of image m (cond (ltb n 256) n 255) ≡ step_read_of image m n
  read_clamped n = read_by n (ltb n 256) refl

  -- so a step's answer and buffer are those of the number itself
  pub step_lent_clamped :
      (n : ℕ) (s : Step) (r : Option Origin) → s ≡ step_of image m (cond (ltb n 256) n 255) →
      r ≡ step_read_of image m (cond (ltb n 256) n 255) →
      stepped_lent s r ≡ stepped_lent (step_of image m n) (step_read_of image m n)
  step_lent_clamped n s r e f = rw (e, f, step_clamped image m n, read_clamped n)

-- a refusal before the levels does not depend on them
unwired : (a b : Bool) (n k : ℕ)
    → verdict n (unless a (fault (plain 1)) (unless b (fault (plain 13)) (fault (plain 11))))
    ≡ verdict k (unless a (fault (plain 1)) (unless b (fault (plain 13)) (fault (plain 11))))
unwired true true n k = refl
unwired true false n k = refl
unwired false b n k = refl

check_by :
    (image certificate : List ℕ) (n : ℕ) (b : Bool) → ltb n 256 ≡ b →
    check_of image certificate (cond b n 255) ≡ check_of image certificate n
unfolding check_of
check_by image certificate n true e = refl
check_by image certificate n false e =
    rw (le-ltb n 32 (omega (arith, ltb-false n 256 e)))
    (unwired (is_image (length image)) (eqb (length certificate) (marks_in (length image))) (levels_of certificate 255)
    (levels_of certificate n))

pub check_clamped :
    (image certificate : List ℕ) (n : ℕ)
    → check_of image certificate (cond (ltb n 256) n 255) ≡ check_of image certificate n
check_clamped image certificate n = check_by image certificate n (ltb n 256) refl

decode_by :
    (image : List ℕ) (bank a : ℕ) (b : Bool) → ltb a 4096 ≡ b → decode_in image bank (cond b a 4096) ≡ decode_in image bank a
unfolding decode_in decode_at
decode_by image bank a true e = refl
decode_by image bank a false e = rw e

pub decode_clamped : (image : List ℕ) (bank a : ℕ) → decode_in image bank (cond (ltb a 4096) a 4096) ≡ decode_in image bank a
decode_clamped image bank a = decode_by image bank a (ltb a 4096) refl
