-- Writing and decoding undo one another, over an opcode and the two bytes that follow.
use mathlib.Core.Path.{◌≡◌, refl, ap, ◌∙◌}
use mathlib.Core.Logic.{◌⊎◌, inl, inr, ⊎_elim}
use mathlib.Core.Bool.{Bool, true, false, cond, ◌&&◌, and-eq-true_iff}
use mathlib.Core.List.{List, [], ◌∷◌}
use Prim.Native.Nat.{ℕ, ◌+◌, ◌*◌, ◌/◌, ◌%◌, ◌<◌}
use native.Mathlib.Omega.{arith}
use borrow.Author.Tests.{ltb-true, lt-ltb}
use lib.Dec.{ltb}
use lib.IntN.{ℤ, pos, negsuc}
use lib.Signed.{mag}
use lib.ListN.{length, get_or, take}
use Rattle.isa.specs.declared.Operand.{Operand}
use Rattle.isa.specs.declared.Operand.TheVariants.{Direct, Short, ThroughX, ThroughY}
use Rattle.isa.specs.declared.Instruction.{Instruction}
use Rattle.isa.specs.declared.Instruction.TheVariants as I
use Rattle.std.specs.Prelude.{Option, Some, None}
use Rattle.isa.specs.declared.Encoded.{Encoded}
use Rattle.isa.specs.declared.Encoded.TheVariants.{One, Two, Three}
use Rattle.isa.specs.Displacement.{modulo, short_displacement, long_displacement, signed}
use Rattle.isa.specs.Table.{bytes_of}
use Rattle.isa.specs.Map.{form_of, form_as, entry_of, extended}
use Rattle.isa.specs.Encode.{encode_of, bytes, in_field, with_byte, with_bytes, short_jump, extended_jump, with_bit}
use Rattle.isa.specs.Encode.{bit_jump, bit_direct, on_data, on_short}
use Rattle.isa.proofs.Column.{Each, pick, pick8, pick16, rows}
use Rattle.isa.proofs.Finite.{at, at_signed, eq_z, eq_z→eq, eq_b, eq_b→eq, same_n}
use Rattle.isa.proofs.ShortDisplacement.{short_magnitude}

-- an opcode with the two bytes that follow makes the instruction, and takes n bytes
abbrev Makes : ℕ → ℕ → ℕ → Instruction → ℕ → Type 0
Makes k f s i n = (form_of k f s ≡ Some i) × (bytes_of (entry_of k) ≡ n)

-- what the bytes of an encoding say
abbrev Says : Option Encoded → Instruction → Type 0
Says e i = Makes (get_or (bytes e) 0 0) (get_or (bytes e) 1 0) (get_or (bytes e) 2 0) i (length (bytes e))

-- an encoding says its instruction unless it is refused
abbrev Back : Option Encoded → Instruction → Type 0
Back e i = (e ≡ None → ⊥) → Says e i

-- a choice by a test: the first where it holds, else a refusal
chosen : (b : Bool) (e : Option Encoded) (i : Instruction) → (b ≡ true → Back e i) → Back (cond b e None) i
chosen true e i h n = h refl n
chosen false e i h n = absurd (n refl)

-- a displacement of a field of five bits, and of eight, is what its field reads as
short_back : (d : ℤ) → in_field 5 d ≡ true → signed 5 (modulo 32 d) ≡ d
short_back (pos n) h =
    eq_z→eq (signed 5 (modulo 32 (pos n))) (pos n)
    (at (λ k. eq_z (signed 5 (modulo 32 (pos k))) (pos k)) 16 tt n (ltb-true n 16 h))
short_back (negsuc n) h =
    eq_z→eq (signed 5 (modulo 32 (negsuc n))) (negsuc n)
    (at (λ k. eq_z (signed 5 (modulo 32 (negsuc k))) (negsuc k)) 16 tt n (ltb-true n 16 h))

long_back : (d : ℤ) → in_field 8 d ≡ true → signed 8 (modulo 256 d) ≡ d
long_back d h =
    eq_z→eq (signed 8 (modulo 256 d)) d
    (at_signed (λ z. eq_z (signed 8 (modulo 256 z)) z) tt d (record { sfits = ltb-true (mag d) 128 h }))

-- the low digit of a short jump's opcode is its base, or 8 more
low_digit : (base n : ℕ) → base < 8 → ((n * 8 + base) % 16 ≡ base) ⊎ ((n * 8 + base) % 16 ≡ base + 8)
low_digit base n h =
    pick (λ r. n % 2 ≡ r → ((n * 8 + base) % 16 ≡ base) ⊎ ((n * 8 + base) % 16 ≡ base + 8)) 2
    (λ e. inl (omega arith), (λ e. inr (omega arith), tt)) (n % 2) (omega arith) refl

field_back : (base : ℕ) (d : ℤ) → base < 8 → in_field 5 d ≡ true → short_displacement (modulo 32 d * 8 + base) ≡ d
field_back base d b h =
    let e : (modulo 32 d * 8 + base) / 8 ≡ modulo 32 d = omega arith in
    ap (signed 5) e ∙ short_back d h

-- a short jump, by what the map has in its two columns
short_jump_lem :
    (mk : ℤ → Instruction) (base : ℕ) → base < 8 →
    ((k : ℕ) → (k % 16 ≡ base) ⊎ (k % 16 ≡ base + 8) → Makes k 0 0 (mk (short_displacement k)) 1) → (d : ℤ) →
    Back (short_jump base d) (mk d)
short_jump_lem mk base b column d =
    chosen (in_field 5 d) (Some (One (modulo 32 d * 8 + base))) (mk d)
    (λ h _. let made : Makes (modulo 32 d * 8 + base) 0 0 (mk (short_displacement (modulo 32 d * 8 + base))) 1 =
    column (modulo 32 d * 8 + base) (low_digit base (modulo 32 d) b) in
    (made.0 ∙ ap (λ z. Some (mk z)) (field_back base d b h), made.1))

-- CALL or JP
extended_jump_lem :
    (mk : ℕ → Instruction) (base : ℕ) → base < 16 → ((k f : ℕ) → k % 16 ≡ base → Makes k f 0 (mk (extended k f)) 2)
    → (t : ℕ) →
    Back (extended_jump base t) (mk t)
extended_jump_lem mk base b column t =
    chosen (ltb t 4096) (Some (Two (t % 16 * 16 + base) (t / 16))) (mk t)
    (λ h _. let below : t < 4096 = ltb-true t 4096 h in
    let target : t / 16 * 16 + (t % 16 * 16 + base) / 16 ≡ t = omega arith in
    let made : Makes (t % 16 * 16 + base) (t / 16) 0 (mk (extended (t % 16 * 16 + base) (t / 16))) 2 =
    column (t % 16 * 16 + base) (t / 16) (omega arith) in
    (made.0 ∙ ap (λ z. Some (mk z)) target, made.1))

-- one operand byte, and two
byte : (mk : ℕ → Instruction) (k : ℕ) → ((f : ℕ) → Makes k f 0 (mk f) 2) → (f : ℕ) → Back (with_byte k f) (mk f)
byte mk k made f = chosen (ltb f 256) (Some (Two k f)) (mk f) (λ _ _. made f)

two_bytes : (k f s : ℕ) (i : Instruction) → Makes k f s i 3 → Back (with_bytes k f s) i
two_bytes k f s i made = chosen (ltb f 256 && ltb s 256) (Some (Three k f s)) i (λ _ _. made)

-- JRR or JRS, by what the map has at each of the eight opcodes
bit_jump_lem :
    (mk : ℕ → ℕ → ℤ → Instruction) (base : ℕ) →
    ((bit : ℕ) → bit < 8 → (f s : ℕ) → Makes (with_bit base bit) f s (mk bit f (long_displacement s)) 3) →
    (bit address : ℕ) (d : ℤ) → Back (bit_jump base bit address d) (mk bit address d)
bit_jump_lem mk base column bit address d =
    chosen (ltb bit 8 && in_field 8 d) (with_bytes (with_bit base bit) address (modulo 256 d)) (mk bit address d)
    (λ h. let tests = (and-eq-true_iff (ltb bit 8) (in_field 8 d)).0 h in
    let below : bit < 8 = ltb-true bit 8 tests.0 in
    let made : Makes (with_bit base bit) address (modulo 256 d) (mk bit address (long_displacement (modulo 256 d))) 3 =
    column bit below address (modulo 256 d) in
    two_bytes (with_bit base bit) address (modulo 256 d) (mk bit address d)
    (made.0 ∙ ap (λ z. Some (mk bit address z)) (long_back d tests.1), made.1))

-- RES or SET
bit_direct_lem :
    (mk : ℕ → ℕ → Instruction) (base : ℕ)
    → ((bit : ℕ) → bit < 8 → (f : ℕ) → Makes (with_bit base bit) f 0 (mk bit f) 2) →
    (bit address : ℕ) → Back (bit_direct base bit address) (mk bit address)
bit_direct_lem mk base column bit address =
    chosen (ltb bit 8) (with_byte (with_bit base bit) address) (mk bit address)
    (λ h. byte (mk bit) (with_bit base bit) (column bit (ltb-true bit 8 h)) address)

-- an instruction on a data operand, from each kind of operand
with_short :
    (mk : Operand → Instruction) (short x y rr : ℕ) → ((a : ℕ) → Makes rr a 0 (mk (Direct a)) 2) →
    Each (λ r. Makes (r * 64 + short) 0 0 (mk (Short r)) 1) 4 → Makes x 0 0 (mk ThroughX) 1 → Makes y 0 0 (mk ThroughY)
    1 →
    (o : Operand) → Back (on_short short x y rr o) (mk o)
with_short mk short x y rr d s bx by (Direct a) n = byte (λ a. mk (Direct a)) rr d a n
with_short mk short x y rr d s bx by (Short r) n =
    chosen (ltb r 4) (Some (One (r * 64 + short))) (mk (Short r))
    (λ h _. pick (λ r. Makes (r * 64 + short) 0 0 (mk (Short r)) 1) 4 s r (ltb-true r 4 h)) n
with_short mk short x y rr d s bx by ThroughX n = bx
with_short mk short x y rr d s bx by ThroughY n = by

without_short :
    (mk : Operand → Instruction) (x y rr : ℕ) → ((a : ℕ) → Makes rr a 0 (mk (Direct a)) 2)
    → Makes x 0 0 (mk ThroughX) 1 →
    Makes y 0 0 (mk ThroughY) 1 → (o : Operand) → Back (on_data x y rr o) (mk o)
without_short mk x y rr d bx by (Direct a) n = byte (λ a. mk (Direct a)) rr d a n
without_short mk x y rr d bx by (Short r) n = absurd (n refl)
without_short mk x y rr d bx by ThroughX n = bx
without_short mk x y rr d bx by ThroughY n = by

-- the bytes of every instruction that is not refused decode to it
pub decodes_back : (i : Instruction) → Back (encode_of i) i
unfolding encode_of form_of form_as entry_of bytes_of
decodes_back (I.Jrnz d) =
    short_jump_lem (λ d. I.Jrnz d) 0x00 (omega arith) (λ k. ⊎_elim (λ e. (rw e, rw e)) (λ e. (rw e, rw e))) d
decodes_back (I.Jrnc d) =
    short_jump_lem (λ d. I.Jrnc d) 0x02 (omega arith) (λ k. ⊎_elim (λ e. (rw e, rw e)) (λ e. (rw e, rw e))) d
decodes_back (I.Jrz d) =
    short_jump_lem (λ d. I.Jrz d) 0x04 (omega arith) (λ k. ⊎_elim (λ e. (rw e, rw e)) (λ e. (rw e, rw e))) d
decodes_back (I.Jrc d) =
    short_jump_lem (λ d. I.Jrc d) 0x06 (omega arith) (λ k. ⊎_elim (λ e. (rw e, rw e)) (λ e. (rw e, rw e))) d
decodes_back (I.Call t) = extended_jump_lem (λ t. I.Call t) 0x01 (omega arith) (λ k f e. (rw e, rw e)) t
decodes_back (I.Jp t) = extended_jump_lem (λ t. I.Jp t) 0x09 (omega arith) (λ k f e. (rw e, rw e)) t
decodes_back (I.Jrr b a d) =
    bit_jump_lem (λ b a d. I.Jrr b a d) 0x03
    (pick8 (λ b. (f s : ℕ) → Makes (with_bit 0x03 b) f s (I.Jrr b f (long_displacement s)) 3)
    (λ f s. (refl, refl)) (λ f s. (refl, refl)) (λ f s. (refl, refl)) (λ f s. (refl, refl))
    (λ f s. (refl, refl)) (λ f s. (refl, refl)) (λ f s. (refl, refl)) (λ f s. (refl, refl))) b a d
decodes_back (I.Jrs b a d) =
    bit_jump_lem (λ b a d. I.Jrs b a d) 0x13
    (pick8 (λ b. (f s : ℕ) → Makes (with_bit 0x13 b) f s (I.Jrs b f (long_displacement s)) 3)
    (λ f s. (refl, refl)) (λ f s. (refl, refl)) (λ f s. (refl, refl)) (λ f s. (refl, refl))
    (λ f s. (refl, refl)) (λ f s. (refl, refl)) (λ f s. (refl, refl)) (λ f s. (refl, refl))) b a d
decodes_back (I.Res b a) =
    bit_direct_lem (λ b a. I.Res b a) 0x0B
    (pick8 (λ b. (f : ℕ) → Makes (with_bit 0x0B b) f 0 (I.Res b f) 2)
    (λ f. (refl, refl)) (λ f. (refl, refl)) (λ f. (refl, refl)) (λ f. (refl, refl))
    (λ f. (refl, refl)) (λ f. (refl, refl)) (λ f. (refl, refl)) (λ f. (refl, refl))) b a
decodes_back (I.Set b a) =
    bit_direct_lem (λ b a. I.Set b a) 0x1B
    (pick8 (λ b. (f : ℕ) → Makes (with_bit 0x1B b) f 0 (I.Set b f) 2)
    (λ f. (refl, refl)) (λ f. (refl, refl)) (λ f. (refl, refl)) (λ f. (refl, refl))
    (λ f. (refl, refl)) (λ f. (refl, refl)) (λ f. (refl, refl)) (λ f. (refl, refl))) b a
decodes_back (I.LoadA o) =
    with_short (λ o. I.LoadA o) 0x35 0x07 0x0F 0x1F (λ a. (refl, refl))
    ((refl, refl), ((refl, refl), ((refl, refl), ((refl, refl), tt)))) (refl, refl) (refl, refl) o
decodes_back (I.StoreA o) =
    with_short (λ o. I.StoreA o) 0x3D 0x87 0x8F 0x9F (λ a. (refl, refl))
    ((refl, refl), ((refl, refl), ((refl, refl), ((refl, refl), tt)))) (refl, refl) (refl, refl) o
decodes_back (I.Inc o) =
    with_short (λ o. I.Inc o) 0x15 0x67 0x6F 0x7F (λ a. (refl, refl))
    ((refl, refl), ((refl, refl), ((refl, refl), ((refl, refl), tt)))) (refl, refl) (refl, refl) o
decodes_back (I.Dec o) =
    with_short (λ o. I.Dec o) 0x1D 0xE7 0xEF 0xFF (λ a. (refl, refl))
    ((refl, refl), ((refl, refl), ((refl, refl), ((refl, refl), tt)))) (refl, refl) (refl, refl) o
decodes_back (I.Add o) = without_short (λ o. I.Add o) 0x47 0x4F 0x5F (λ a. (refl, refl)) (refl, refl) (refl, refl) o
decodes_back (I.Sub o) = without_short (λ o. I.Sub o) 0xC7 0xCF 0xDF (λ a. (refl, refl)) (refl, refl) (refl, refl) o
decodes_back (I.And o) = without_short (λ o. I.And o) 0xA7 0xAF 0xBF (λ a. (refl, refl)) (refl, refl) (refl, refl) o
decodes_back (I.Cp o) = without_short (λ o. I.Cp o) 0x27 0x2F 0x3F (λ a. (refl, refl)) (refl, refl) (refl, refl) o
decodes_back (I.LoadAImmediate n) = byte (λ n. I.LoadAImmediate n) 0x17 (λ n. (refl, refl)) n
decodes_back (I.AddImmediate n) = byte (λ n. I.AddImmediate n) 0x57 (λ n. (refl, refl)) n
decodes_back (I.SubImmediate n) = byte (λ n. I.SubImmediate n) 0xD7 (λ n. (refl, refl)) n
decodes_back (I.AndImmediate n) = byte (λ n. I.AndImmediate n) 0xB7 (λ n. (refl, refl)) n
decodes_back (I.CpImmediate n) = byte (λ n. I.CpImmediate n) 0x37 (λ n. (refl, refl)) n
decodes_back (I.LoadImmediate a n) = two_bytes 0x0D a n (I.LoadImmediate a n) (refl, refl)
decodes_back I.Com = λ _. (refl, refl)
decodes_back I.Rlc = λ _. (refl, refl)
decodes_back I.Ret = λ _. (refl, refl)
decodes_back I.Reti = λ _. (refl, refl)
decodes_back I.Stop = λ _. (refl, refl)
decodes_back I.Wait = λ _. (refl, refl)

-- the bytes of a form
abbrev pub form_bytes : Option Instruction → List ℕ
form_bytes (Some i) = bytes (encode_of i)
form_bytes None = []

-- the form of an opcode and the two bytes that follow is written as those that belong to it
abbrev Again : ℕ → ℕ → ℕ → Type 0
Again k f s = form_bytes (form_of k f s) ≡ take (bytes_of (entry_of k)) (k ∷ f ∷ s ∷ [])

short_again : (base k : ℕ) → k < 256 → k % 8 ≡ base → bytes (short_jump base (short_displacement k)) ≡ k ∷ []
short_again base k h e =
    let fits : in_field 5 (short_displacement k) ≡ true = lt-ltb (mag (short_displacement k)) 16 (short_magnitude k h) in
    let field : modulo 32 (short_displacement k) ≡ k / 8 =
    same_n (λ j. modulo 32 (short_displacement j)) (λ j. j / 8) tt k h in
    let whole : k / 8 * 8 + base ≡ k = omega arith in
    rw (fits, field, whole)

extended_again : (base k f : ℕ) → k < 256 → f < 256 → k % 16 ≡ base
    → bytes (extended_jump base (extended k f)) ≡ k ∷ f ∷ []
extended_again base k f h g e =
    let opcode : (f * 16 + k / 16) % 16 * 16 + base ≡ k = omega arith in
    let second : (f * 16 + k / 16) / 16 ≡ f = omega arith in
    rw (lt-ltb (f * 16 + k / 16) 4096 (omega arith), opcode, second)

long_fits : (s : ℕ) → s < 256 → in_field 8 (long_displacement s) ≡ true
long_fits s h =
    eq_b→eq (in_field 8 (long_displacement s)) true (at (λ j. eq_b (in_field 8 (long_displacement j)) true) 256 tt s h)

long_again : (s : ℕ) → s < 256 → modulo 256 (long_displacement s) ≡ s
long_again s h = same_n (λ j. modulo 256 (long_displacement j)) (λ j. j) tt s h

module _ (f s : ℕ) (hf : f < 256) (hs : s < 256) where
  -- the tests that an operand byte, and two, lie in their fields
  one_fits : ltb f 256 ≡ true
  one_fits = lt-ltb f 256 hf

  both_fit : (ltb f 256 && ltb s 256) ≡ true
  both_fit = rw (lt-ltb f 256 hf, lt-ltb s 256 hs)

  bit_again :
      (k : ℕ) →
      bytes (cond (in_field 8 (long_displacement s)) (with_bytes k f (modulo 256 (long_displacement s))) None) ≡ k
      ∷ f ∷ s ∷ []
  bit_again k = rw (long_fits s hs, long_again s hs, one_fits, lt-ltb s 256 hs)

  -- column by column; a row with operand bytes by their tests
  again_3 : (k : ℕ) → k < 256 → k % 16 ≡ 3 → Again k f s
  unfolding encode_of form_of form_as entry_of bytes_of
  again_3 = rows (λ k. Again k f s) 3
      (bit_again 0x03) (bit_again 0x13) (bit_again 0x23) (bit_again 0x33)
      (bit_again 0x43) (bit_again 0x53) (bit_again 0x63) (bit_again 0x73)
      (bit_again 0x83) (bit_again 0x93) (bit_again 0xA3) (bit_again 0xB3)
      (bit_again 0xC3) (bit_again 0xD3) (bit_again 0xE3) (bit_again 0xF3)

  again_5 : (k : ℕ) → k < 256 → k % 16 ≡ 5 → Again k f s
  unfolding encode_of form_of form_as entry_of bytes_of
  again_5 = rows (λ k. Again k f s) 5
      refl refl refl refl refl refl refl refl refl refl refl refl refl refl refl refl

  again_7 : (k : ℕ) → k < 256 → k % 16 ≡ 7 → Again k f s
  unfolding encode_of form_of form_as entry_of bytes_of
  again_7 = rows (λ k. Again k f s) 7
      refl (rw one_fits) refl (rw one_fits)
      refl (rw one_fits) refl refl
      refl refl refl (rw one_fits)
      refl (rw one_fits) refl refl

  again_11 : (k : ℕ) → k < 256 → k % 16 ≡ 11 → Again k f s
  unfolding encode_of form_of form_as entry_of bytes_of
  again_11 = rows (λ k. Again k f s) 11
      (rw one_fits) (rw one_fits) (rw one_fits) (rw one_fits)
      (rw one_fits) (rw one_fits) (rw one_fits) (rw one_fits)
      (rw one_fits) (rw one_fits) (rw one_fits) (rw one_fits)
      (rw one_fits) (rw one_fits) (rw one_fits) (rw one_fits)

  again_13 : (k : ℕ) → k < 256 → k % 16 ≡ 13 → Again k f s
  unfolding encode_of form_of form_as entry_of bytes_of
  again_13 = rows (λ k. Again k f s) 13
      (rw both_fit) refl refl refl
      refl refl refl refl
      refl refl refl refl
      refl refl refl refl

  again_15 : (k : ℕ) → k < 256 → k % 16 ≡ 15 → Again k f s
  unfolding encode_of form_of form_as entry_of bytes_of
  again_15 = rows (λ k. Again k f s) 15
      refl (rw one_fits) refl (rw one_fits)
      refl (rw one_fits) refl (rw one_fits)
      refl (rw one_fits) refl (rw one_fits)
      refl (rw one_fits) refl (rw one_fits)

-- an opcode with the two bytes that follow is written as it stands
pub writes_back : (k f s : ℕ) → k < 256 → f < 256 → s < 256 → Again k f s
unfolding encode_of form_of form_as entry_of bytes_of
writes_back k f s hk hf hs =
    pick16 (λ d. k % 16 ≡ d → Again k f s)
    (λ e. rw e (short_again 0 k hk (omega arith)))
    (λ e. rw e (extended_again 1 k f hk hf e))
    (λ e. rw e (short_again 2 k hk (omega arith)))
    (λ e. again_3 f s hf hs k hk e)
    (λ e. rw e (short_again 4 k hk (omega arith)))
    (λ e. again_5 f s hf hs k hk e)
    (λ e. rw e (short_again 6 k hk (omega arith)))
    (λ e. again_7 f s hf hs k hk e)
    (λ e. rw e (short_again 0 k hk (omega arith)))
    (λ e. rw e (extended_again 9 k f hk hf e))
    (λ e. rw e (short_again 2 k hk (omega arith)))
    (λ e. again_11 f s hf hs k hk e)
    (λ e. rw e (short_again 4 k hk (omega arith)))
    (λ e. again_13 f s hf hs k hk e)
    (λ e. rw e (short_again 6 k hk (omega arith)))
    (λ e. again_15 f s hf hs k hk e)
    (k % 16) (omega arith) refl
