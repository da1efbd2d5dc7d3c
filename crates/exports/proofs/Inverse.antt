-- Packing and unpacking undo each other; an answer's parts can be read back.
use Prim.Native.Nat.{ℕ, zero, suc, ◌+◌, ◌*◌, ◌/◌, ◌%◌, ◌<◌, ◌≤◌}
use mathlib.Core.Path.{◌≡◌, refl, sym, ap, ◌∙◌}
use mathlib.Core.Bool.{Bool, true, false, cond, ◌&&◌, and-eq-true_iff}
use mathlib.Core.List.{List, [], ◌∷◌, ◌++◌, append_assoc}
use native.Mathlib.Omega.{arith}
use borrow.Author.Tests.{ltb-true, leb-true, eqb-true}
use lib.Dec.{eqb, leb, ltb}
use lib.ListN.{length, get_or, take, drop, length-append, take-append-drop, drop_of_length-le}
use lib.Seq.{drop-cons, take_at, get_or-append-add}
use Rattle.isa.specs.RoundTrip.{Bytes}
use Rattle.control.specs.declared.Mode.{Mode}
use Rattle.control.specs.declared.Mode.TheVariants.{Reset, Normal, Interrupt, NmiOverNormal, NmiOverInterrupt}
use Rattle.data.specs.declared.Origin.TheVariants.{Ram, Register, Rom, NoRom}
use Rattle.data.specs.declared.Origin.{Origin}
use Rattle.std.specs.Prelude.{Option, Some, None}
use Rattle.machine.specs.declared.Machine.{Machine}
use Rattle.exports.specs.Every.{every}
use Rattle.control.specs.Modes.{mode_number}
use Rattle.exports.specs.States.{is_flag, is_valid, low_byte, high_byte, flag_byte, mode_of, control_at}
use Rattle.exports.specs.States.{stack_at, pairs_at, machine_at, valid, invalid, unpacked, control_bytes, stack_bytes}
use Rattle.exports.specs.States.{packed}
use Rattle.exports.specs.Answers.{origin_number, rom_address, origin_word}
use Rattle.exports.specs.Laws.{Sized, PackingInverts, WordReads, SizeReads, OriginReads}
use Rattle.exports.proofs.Every.{every_holds}
use Rattle.exports.proofs.Pasting.{valid_length}

low_back : (a b : ℕ) → a < 256 → low_byte (a + b * 256) ≡ a
low_back a b h = omega arith

high_back : (a b : ℕ) → a < 256 → high_byte (a + b * 256) ≡ b
high_back a b h = omega arith

pub number_back : (n : ℕ) → low_byte n + high_byte n * 256 ≡ n
number_back n = omega arith

flag_back : (n : ℕ) → n < 2 → flag_byte (eqb n 1) ≡ n
flag_back zero h = refl
flag_back (suc zero) h = refl
flag_back (suc (suc n)) h = absurd (omega arith)

back_flag : (b : Bool) → eqb (flag_byte b) 1 ≡ b
back_flag true = refl
back_flag false = refl

flag_small : (b : Bool) → ltb (flag_byte b) 2 ≡ true
flag_small true = refl
flag_small false = refl

mode_back : (n : ℕ) → n ≤ 4 → mode_number (mode_of n) ≡ n
unfolding mode_of
mode_back zero h = refl
mode_back (suc zero) h = refl
mode_back (suc (suc zero)) h = refl
mode_back (suc (suc (suc zero))) h = refl
mode_back (suc (suc (suc (suc zero)))) h = refl
mode_back (suc (suc (suc (suc (suc n))))) h = absurd (omega arith)

back_mode : (m : Mode) → mode_of (mode_number m) ≡ m
unfolding mode_of
back_mode Reset = refl
back_mode Normal = refl
back_mode Interrupt = refl
back_mode NmiOverNormal = refl
back_mode NmiOverInterrupt = refl

mode_small : (m : Mode) → leb (mode_number m) 4 ≡ true
mode_small Reset = refl
mode_small Normal = refl
mode_small Interrupt = refl
mode_small NmiOverNormal = refl
mode_small NmiOverInterrupt = refl

-- n elements from an index on
abbrev listed : List ℕ → (from n : ℕ) → List ℕ
listed s from zero = []
listed s from (suc n) = get_or s from 0 ∷ listed s (suc from) n

elements : (s : List ℕ) (from n : ℕ) → length s ≡ from + n → drop from s ≡ listed s from n
elements s from zero e = let over : length s ≤ from = omega arith in drop_of_length-le s over
elements s from (suc n) e =
    drop-cons s from 0 (omega arith) ∙ ap (λ (l : List ℕ). get_or s from 0 ∷ l) (elements s (suc from) n (omega arith))

-- what the tests of a state tell
record Valid (s : List ℕ) : Type 0 where
  mode : get_or s 259 0 ≤ 4
  nought : get_or s 267 0 ≡ 0
  flags : (k : ℕ) → k < 7 → get_or s (260 + k) 0 < 2

valid_facts : (s : List ℕ) → is_valid s ≡ true → Valid s
unfolding is_valid
valid_facts s e =
    let p : (eqb (length s) 280 ≡ true)
    × (leb (get_or s 259 0) 4 && (eqb (get_or s 267 0) 0 && every (is_flag s) 7) ≡ true) = (and-eq-true_iff _ _).0 e in
    let q : (leb (get_or s 259 0) 4 ≡ true) × (eqb (get_or s 267 0) 0 && every (is_flag s) 7 ≡ true) =
    (and-eq-true_iff _ _).0 p.1 in
    let r : (eqb (get_or s 267 0) 0 ≡ true) × (every (is_flag s) 7 ≡ true) = (and-eq-true_iff _ _).0 q.1 in
    record {
      mode = leb-true (get_or s 259 0) 4 q.0;
      nought = eqb-true (get_or s 267 0) 0 r.0;
      flags = λ k h. ltb-true (get_or s (260 + k) 0) 2 (every_holds (is_flag s) 7 r.1 k h);
    }

packed_again : (s : List ℕ) → Bytes s → is_valid s ≡ true → packed (machine_at s) ≡ s
unfolding packed machine_at control_at stack_at pairs_at control_bytes stack_bytes
packed_again s b e =
    let t = valid_facts s e in
    let flags = t.flags in
    let whole : take 256 s ++ listed s 256 24 ≡ s =
    rw (← elements s 256 24 (valid_length s e)) (take-append-drop 256 s) in
    rw (
      low_back (get_or s 256 0) (get_or s 257 0) (b 256),
      high_back (get_or s 256 0) (get_or s 257 0) (b 256),
      low_back (get_or s 268 0) (get_or s 269 0) (b 268),
      high_back (get_or s 268 0) (get_or s 269 0) (b 268),
      low_back (get_or s 270 0) (get_or s 271 0) (b 270),
      high_back (get_or s 270 0) (get_or s 271 0) (b 270),
      low_back (get_or s 272 0) (get_or s 273 0) (b 272),
      high_back (get_or s 272 0) (get_or s 273 0) (b 272),
      low_back (get_or s 274 0) (get_or s 275 0) (b 274),
      high_back (get_or s 274 0) (get_or s 275 0) (b 274),
      low_back (get_or s 276 0) (get_or s 277 0) (b 276),
      high_back (get_or s 276 0) (get_or s 277 0) (b 276),
      low_back (get_or s 278 0) (get_or s 279 0) (b 278),
      high_back (get_or s 278 0) (get_or s 279 0) (b 278),
      mode_back (get_or s 259 0) t.mode,
      flag_back (get_or s 260 0) (flags 0 (omega arith)),
      flag_back (get_or s 261 0) (flags 1 (omega arith)),
      flag_back (get_or s 262 0) (flags 2 (omega arith)),
      flag_back (get_or s 263 0) (flags 3 (omega arith)),
      flag_back (get_or s 264 0) (flags 4 (omega arith)),
      flag_back (get_or s 265 0) (flags 5 (omega arith)),
      flag_back (get_or s 266 0) (flags 6 (omega arith)),
      append_assoc,
    )
    (rw t.nought at whole)

module _ (m : Machine) (z : Sized m) where
  tail : List ℕ
  tail = control_bytes m.control m.flags ++ stack_bytes m.stack

  at : (n : ℕ) → get_or (m.bytes ++ tail) (256 + n) 0 ≡ get_or tail n 0
  at n = rw (← z.bytes) (get_or-append-add m.bytes tail n 0)

  is_valid_lem : is_valid (m.bytes ++ tail) ≡ true
  unfolding tail is_valid every control_bytes stack_bytes
  is_valid_lem =
      rw (
        length-append,
        z.bytes,
        at 3,
        mode_small m.control.mode,
        at 11,
        at 4,
        at 5,
        at 6,
        at 7,
        at 8,
        at 9,
        at 10,
        flag_small m.control.asleep,
        flag_small m.flags.normal.zero,
        flag_small m.flags.normal.carry,
        flag_small m.flags.interrupt.zero,
        flag_small m.flags.interrupt.carry,
        flag_small m.flags.nmi.zero,
        flag_small m.flags.nmi.carry,
      )

  is_machine : machine_at (m.bytes ++ tail) ≡ m
  unfolding tail machine_at control_at stack_at pairs_at control_bytes stack_bytes
  is_machine =
      let six : listed m.stack 0 6 ≡ m.stack = sym (elements m.stack 0 6 z.stack) in
      rw (
        at 0,
        at 1,
        at 2,
        at 3,
        at 4,
        at 5,
        at 6,
        at 7,
        at 8,
        at 9,
        at 10,
        at 12,
        at 13,
        at 14,
        at 15,
        at 16,
        at 17,
        at 18,
        at 19,
        at 20,
        at 21,
        at 22,
        at 23,
        number_back m.control.pc,
        number_back (get_or m.stack 0 0),
        number_back (get_or m.stack 1 0),
        number_back (get_or m.stack 2 0),
        number_back (get_or m.stack 3 0),
        number_back (get_or m.stack 4 0),
        number_back (get_or m.stack 5 0),
        back_mode m.control.mode,
        back_flag m.control.asleep,
        back_flag m.flags.normal.zero,
        back_flag m.flags.normal.carry,
        back_flag m.flags.interrupt.zero,
        back_flag m.flags.interrupt.carry,
        back_flag m.flags.nmi.zero,
        back_flag m.flags.nmi.carry,
        take_at m.bytes _ 256 z.bytes,
        six,
      )

  unpacked_again : unpacked (packed m) ≡ valid m
  unfolding unpacked packed tail
  unpacked_again = rw (append_assoc, is_valid_lem, is_machine)

valid_is : (s : List ℕ) (b : Bool) (m : Machine) → cond b (valid (machine_at s)) invalid ≡ valid m
    → (b ≡ true) × (machine_at s ≡ m)
valid_is s true m e = (refl, cc)
valid_is s false m e = let z : ◌≡◌ {A = ℕ} 0 1 = cc in absurd (omega arith)

pub packing_inverts : PackingInverts
unfolding unpacked
packing_inverts = record {
  unpack_pack = unpacked_again;
  pack_unpack = λ s b m e.
      let p : (is_valid s ≡ true) × (machine_at s ≡ m) = valid_is s (is_valid s) m e in
      rw (← p.1) (packed_again s b p.0);
}

pub word_reads : WordReads
word_reads = record {
  number = λ n a v h k. omega arith;
  address = λ n a v h k. omega arith;
  value = λ n a v h k. omega arith;
}

pub size_reads : SizeReads
size_reads = record { width = λ w s h. omega arith; steps = λ w s h. omega arith }

-- by what was read
origin_value : (v : ℕ) (r : Option Origin) → v < 0x100 → origin_word v r / 0x1000000 % 0x100 ≡ v
origin_value v r h = omega arith

origin_number_lem : (v : ℕ) (r : Option Origin) → v < 0x100 → origin_word v r / 0x100000000 % 0x100 ≡ origin_number r
origin_number_lem v None h = omega arith
origin_number_lem v (Some Ram) h = omega arith
origin_number_lem v (Some Register) h = omega arith
origin_number_lem v (Some (Rom address)) h = omega arith
origin_number_lem v (Some NoRom) h = omega arith

origin_address : (v : ℕ) (r : Option Origin) → v < 0x100 → origin_word v r / 0x10000000000 ≡ rom_address r
origin_address v None h = omega arith
origin_address v (Some Ram) h = omega arith
origin_address v (Some Register) h = omega arith
origin_address v (Some (Rom address)) h = omega arith
origin_address v (Some NoRom) h = omega arith

pub origin_reads : OriginReads
origin_reads = record { value = origin_value; origin = origin_number_lem; address = origin_address }
