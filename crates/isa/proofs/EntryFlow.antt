-- Where a form continues, by the map's entry: an entry of no bytes is undefined, and every other one has an
-- instruction.
use Prim.Native.Nat.{ℕ}
use mathlib.Core.Path.{◌≡◌, refl}
use native.Mathlib.Omega.{arith}
use Rattle.std.specs.Prelude.{None}
use Rattle.isa.specs.Displacement.{forward_of}
use Rattle.isa.specs.Table.{bytes_of}
use Rattle.isa.specs.Map.{Addressing, rr, short, [X], [Y], Entry, JRNZ, JRNC, JRZ, JRC, CALL, JP, JRR, JRS, RES}
use Rattle.isa.specs.Map.{SET, LD-A, LD-to, INC, DEC, ADD, SUB, AND, CP, LDI-A, LDI-rr, ADDI, SUBI, ANDI, CPI}
use Rattle.isa.specs.Map.{COM, RLC, RET, RETI, STOP, WAIT, #, entry_of, form_as, form_of}
use Rattle.isa.specs.Refusals.{done}
use Rattle.isa.specs.Decode.{with_form}
use Rattle.isa.specs.FlowAt.{goes, continuation_from, flow_as}

one : ◌≡◌ {A = ℕ} 1 0 → ⊥
one h = omega (arith, h)

two : ◌≡◌ {A = ℕ} 2 0 → ⊥
two h = omega (arith, h)

three : ◌≡◌ {A = ℕ} 3 0 → ⊥
three h = omega (arith, h)

-- on a data operand the bytes go by the operand, whatever the instruction
by_source : (source : Addressing) → bytes_of (LD-A source) ≡ 0 → ⊥
unfolding bytes_of
by_source rr h = two h
by_source (short r) h = one h
by_source [X] h = one h
by_source [Y] h = one h

no_bytes : (e : Entry) (k f s : ℕ) → bytes_of e ≡ 0 → form_as e k f s ≡ None
unfolding bytes_of form_as
no_bytes JRNZ k f s h = absurd (one h)
no_bytes JRNC k f s h = absurd (one h)
no_bytes JRZ k f s h = absurd (one h)
no_bytes JRC k f s h = absurd (one h)
no_bytes CALL k f s h = absurd (two h)
no_bytes JP k f s h = absurd (two h)
no_bytes JRR k f s h = absurd (three h)
no_bytes JRS k f s h = absurd (three h)
no_bytes RES k f s h = absurd (two h)
no_bytes SET k f s h = absurd (two h)
no_bytes (LD-A source) k f s h = absurd (by_source source h)
no_bytes (LD-to source) k f s h = absurd (by_source source h)
no_bytes (INC source) k f s h = absurd (by_source source h)
no_bytes (DEC source) k f s h = absurd (by_source source h)
no_bytes (ADD source) k f s h = absurd (by_source source h)
no_bytes (SUB source) k f s h = absurd (by_source source h)
no_bytes (AND source) k f s h = absurd (by_source source h)
no_bytes (CP source) k f s h = absurd (by_source source h)
no_bytes LDI-A k f s h = absurd (two h)
no_bytes LDI-rr k f s h = absurd (three h)
no_bytes ADDI k f s h = absurd (two h)
no_bytes SUBI k f s h = absurd (two h)
no_bytes ANDI k f s h = absurd (two h)
no_bytes CPI k f s h = absurd (two h)
no_bytes COM k f s h = absurd (one h)
no_bytes RLC k f s h = absurd (one h)
no_bytes RET k f s h = absurd (one h)
no_bytes RETI k f s h = absurd (one h)
no_bytes STOP k f s h = absurd (one h)
no_bytes WAIT k f s h = absurd (one h)
no_bytes # k f s h = refl

some_bytes : (e : Entry) (a k f s : ℕ) → (bytes_of e ≡ 0 → ⊥)
    → continuation_from a (with_form a k (form_as e k f s))
    ≡ done (goes (flow_as (form_as e k f s) a) (forward_of a (bytes_of (entry_of k))))
unfolding bytes_of form_as
some_bytes JRNZ a k f s h = refl
some_bytes JRNC a k f s h = refl
some_bytes JRZ a k f s h = refl
some_bytes JRC a k f s h = refl
some_bytes CALL a k f s h = refl
some_bytes JP a k f s h = refl
some_bytes JRR a k f s h = refl
some_bytes JRS a k f s h = refl
some_bytes RES a k f s h = refl
some_bytes SET a k f s h = refl
some_bytes (LD-A source) a k f s h = refl
some_bytes (LD-to source) a k f s h = refl
some_bytes (INC source) a k f s h = refl
some_bytes (DEC source) a k f s h = refl
some_bytes (ADD source) a k f s h = refl
some_bytes (SUB source) a k f s h = refl
some_bytes (AND source) a k f s h = refl
some_bytes (CP source) a k f s h = refl
some_bytes LDI-A a k f s h = refl
some_bytes LDI-rr a k f s h = refl
some_bytes ADDI a k f s h = refl
some_bytes SUBI a k f s h = refl
some_bytes ANDI a k f s h = refl
some_bytes CPI a k f s h = refl
some_bytes COM a k f s h = refl
some_bytes RLC a k f s h = refl
some_bytes RET a k f s h = refl
some_bytes RETI a k f s h = refl
some_bytes STOP a k f s h = refl
some_bytes WAIT a k f s h = refl
some_bytes # a k f s h = absurd (h refl)

-- an opcode of no bytes is undefined
pub undefined : (k f s : ℕ) → bytes_of (entry_of k) ≡ 0 → form_of k f s ≡ None
unfolding form_of
undefined k f s h = no_bytes (entry_of k) k f s h

-- any other continues as its form does
pub continues : (a k f s : ℕ) → (bytes_of (entry_of k) ≡ 0 → ⊥)
    → continuation_from a (with_form a k (form_of k f s))
    ≡ done (goes (flow_as (form_of k f s) a) (forward_of a (bytes_of (entry_of k))))
unfolding form_of
continues a k f s h = some_bytes (entry_of k) a k f s h
