-- Writing refuses with 8 exactly the instructions that no image holds.
use mathlib.Core.Path.{◌≡◌, refl, sym, ap, ◌∙◌}
use mathlib.Core.Logic.{◌⊎◌, inl, inr, ⊎_elim}
use mathlib.Core.Bool.{Bool, true, false, cond, ◌&&◌, and-eq-true_iff}
use mathlib.Core.List.{List, [], ◌∷◌, ◌++◌}
use Prim.Native.Nat.{ℕ, zero, suc, ◌+◌, ◌-◌, ◌*◌, ◌/◌, ◌%◌, ◌<◌, ◌≤◌}
use native.Mathlib.Omega.{arith}
use borrow.Author.Tests.{ltb-true, lt-ltb, le-leb}
use lib.Dec.{T, ltb, leb, eqb}
use lib.IntN.{ℤ, pos, negsuc}
use lib.ListN.{length, get_or, replicate, length-append, length-replicate, get_or-append}
use Rattle.isa.specs.declared.Operand.{Operand}
use Rattle.isa.specs.declared.Operand.TheVariants.{Direct, Short, ThroughX, ThroughY}
use Rattle.isa.specs.declared.Instruction.{Instruction}
use Rattle.isa.specs.declared.Instruction.TheVariants as I
use Rattle.isa.specs.declared.Encoded.{Encoded}
use Rattle.std.specs.Prelude.{Option, Some, None}
use Rattle.isa.specs.declared.Encoded.TheVariants.{One, Two, Three}
use Rattle.isa.specs.Refusals.{plain, done, refused}
use Rattle.isa.specs.Displacement.{modulo, forward_of}
use Rattle.isa.specs.Table.{bytes_of}
use Rattle.isa.specs.Map.{form_of, form_as, entry_of}
use Rattle.isa.specs.Rom.{is_space, space_of, rom_at}
use Rattle.isa.specs.Write.{outcome}
use Rattle.isa.specs.Encode.{encode_of, bytes, in_field, with_byte, with_bytes, short_jump, extended_jump, with_bit}
use Rattle.isa.specs.Encode.{bit_jump, bit_direct, on_data, on_short}
use Rattle.isa.specs.Counts.{is_undefined}
use Rattle.isa.specs.Cases.{placed}
use Rattle.isa.specs.RoundTrip.{Bytes, Holds, Undecoded, RefusedExactly}
use Rattle.isa.proofs.AtAddress.{from_space}
use Rattle.isa.proofs.Halves.{space_image, space_is_image, space_bytes}
use Rattle.isa.proofs.Finite.{at}
use Rattle.isa.proofs.Reading.{Read, reading, rom_byte}
use Rattle.isa.proofs.InImage.{written_decodes, decoded_writes}

-- an opcode of no bytes is undefined, whatever follows
no_bytes : (k f s : ℕ) → k < 256 → bytes_of (entry_of k) ≡ 0 → T (is_undefined (form_of k f s))
unfolding bytes_of entry_of form_of form_as
no_bytes k f s h e = rw e at (at (λ k. cond (eqb (bytes_of (entry_of k)) 0) (is_undefined (form_of k f s)) true) 256 tt k h)

-- what is refused was not decoded
beyond_undecoded : (i : Instruction) → encode_of i ≡ None → Undecoded i
beyond_undecoded i e image all bank a n c q =
    let space : List ℕ = space_of image bank in
    let r : Read space a i n = reading space a i n c (from_space image bank a i n c q) in
    let hk : r.k < 256 = rom_byte space (space_bytes image bank all) a r.k r.opcode in
    let none : 0 ≡ n = rw e at (decoded_writes image all bank a i n c q).0 in
    rw r.form at (no_bytes r.k r.f r.s hk (r.count ∙ sym none))

-- the bytes of an instruction are bytes
nil_bytes : Bytes []
nil_bytes j = omega arith

pub cons_bytes : (a : ℕ) (bs : List ℕ) → a < 256 → Bytes bs → Bytes (a ∷ bs)
cons_bytes a bs h hs zero = h
cons_bytes a bs h hs (suc j) = hs j

one_byte : (a : ℕ) → a < 256 → Bytes (a ∷ [])
one_byte a h = cons_bytes a [] h nil_bytes

chosen_bytes : (b : Bool) (e : Option Encoded) → (b ≡ true → Bytes (bytes e)) → Bytes (bytes (cond b e None))
chosen_bytes true e h = h refl
chosen_bytes false e h = nil_bytes

modulo_32 : (d : ℤ) → modulo 32 d < 32
modulo_32 (pos n) = omega arith
modulo_32 (negsuc n) = omega arith

with_byte_lem : (k f : ℕ) → k < 256 → Bytes (bytes (with_byte k f))
with_byte_lem k f h = chosen_bytes (ltb f 256) (Some (Two k f)) (λ t. cons_bytes k (f ∷ []) h (one_byte f (ltb-true f 256 t)))

with_bytes_lem : (k f s : ℕ) → k < 256 → Bytes (bytes (with_bytes k f s))
with_bytes_lem k f s h =
    chosen_bytes (ltb f 256 && ltb s 256) (Some (Three k f s))
    (λ t. let tests = (and-eq-true_iff (ltb f 256) (ltb s 256)).0 t in
    cons_bytes k (f ∷ s ∷ []) h
    (cons_bytes f (s ∷ []) (ltb-true f 256 tests.0) (one_byte s (ltb-true s 256 tests.1))))

short_jump_lem : (base : ℕ) (d : ℤ) → base < 8 → Bytes (bytes (short_jump base d))
short_jump_lem base d h =
    chosen_bytes (in_field 5 d) (Some (One (modulo 32 d * 8 + base)))
    (λ t. let field : modulo 32 d < 32 = modulo_32 d in one_byte (modulo 32 d * 8 + base) (omega arith))

extended_jump_lem : (base target : ℕ) → base < 16 → Bytes (bytes (extended_jump base target))
extended_jump_lem base target h =
    chosen_bytes (ltb target 4096) (Some (Two (target % 16 * 16 + base) (target / 16)))
    (λ t. let below : target < 4096 = ltb-true target 4096 t in
    cons_bytes (target % 16 * 16 + base) (target / 16 ∷ []) (omega arith) (one_byte (target / 16) (omega arith)))

with_bit_lem : (base bit : ℕ) → base < 32 → bit < 8 → with_bit base bit < 256
with_bit_lem base bit h g = omega arith

bit_jump_lem : (base bit address : ℕ) (d : ℤ) → base < 32 → Bytes (bytes (bit_jump base bit address d))
bit_jump_lem base bit address d h =
    chosen_bytes (ltb bit 8 && in_field 8 d) (with_bytes (with_bit base bit) address (modulo 256 d))
    (λ t. with_bytes_lem (with_bit base bit) address (modulo 256 d)
    (with_bit_lem base bit h (ltb-true bit 8 ((and-eq-true_iff (ltb bit 8) (in_field 8 d)).0 t).0)))

bit_direct_lem : (base bit address : ℕ) → base < 32 → Bytes (bytes (bit_direct base bit address))
bit_direct_lem base bit address h =
    chosen_bytes (ltb bit 8) (with_byte (with_bit base bit) address)
    (λ t. with_byte_lem (with_bit base bit) address (with_bit_lem base bit h (ltb-true bit 8 t)))

on_short_lem : (short x y rr : ℕ) → short < 64 → x < 256 → y < 256 → rr < 256 → (o : Operand)
    → Bytes (bytes (on_short short x y rr o))
on_short_lem short x y rr hs hx hy hr (Direct a) = with_byte_lem rr a hr
on_short_lem short x y rr hs hx hy hr (Short r) =
    chosen_bytes (ltb r 4) (Some (One (r * 64 + short))) (λ t. let below : r < 4 =
    ltb-true r 4 t in one_byte (r * 64 + short) (omega arith))
on_short_lem short x y rr hs hx hy hr ThroughX = one_byte x hx
on_short_lem short x y rr hs hx hy hr ThroughY = one_byte y hy

on_data_lem : (x y rr : ℕ) → x < 256 → y < 256 → rr < 256 → (o : Operand) → Bytes (bytes (on_data x y rr o))
on_data_lem x y rr hx hy hr (Direct a) = with_byte_lem rr a hr
on_data_lem x y rr hx hy hr (Short r) = nil_bytes
on_data_lem x y rr hx hy hr ThroughX = one_byte x hx
on_data_lem x y rr hx hy hr ThroughY = one_byte y hy

encoded_bytes : (i : Instruction) → Bytes (bytes (encode_of i))
unfolding encode_of
encoded_bytes (I.Jrnz d) = short_jump_lem 0x00 d (omega arith)
encoded_bytes (I.Jrnc d) = short_jump_lem 0x02 d (omega arith)
encoded_bytes (I.Jrz d) = short_jump_lem 0x04 d (omega arith)
encoded_bytes (I.Jrc d) = short_jump_lem 0x06 d (omega arith)
encoded_bytes (I.Call t) = extended_jump_lem 0x01 t (omega arith)
encoded_bytes (I.Jp t) = extended_jump_lem 0x09 t (omega arith)
encoded_bytes (I.Jrr b a d) = bit_jump_lem 0x03 b a d (omega arith)
encoded_bytes (I.Jrs b a d) = bit_jump_lem 0x13 b a d (omega arith)
encoded_bytes (I.Res b a) = bit_direct_lem 0x0B b a (omega arith)
encoded_bytes (I.Set b a) = bit_direct_lem 0x1B b a (omega arith)
encoded_bytes (I.LoadA o) = on_short_lem 0x35 0x07 0x0F 0x1F (omega arith) (omega arith) (omega arith) (omega arith) o
encoded_bytes (I.StoreA o) = on_short_lem 0x3D 0x87 0x8F 0x9F (omega arith) (omega arith) (omega arith) (omega arith) o
encoded_bytes (I.LoadAImmediate n) = with_byte_lem 0x17 n (omega arith)
encoded_bytes (I.LoadImmediate a n) = with_bytes_lem 0x0D a n (omega arith)
encoded_bytes (I.Inc o) = on_short_lem 0x15 0x67 0x6F 0x7F (omega arith) (omega arith) (omega arith) (omega arith) o
encoded_bytes (I.Dec o) = on_short_lem 0x1D 0xE7 0xEF 0xFF (omega arith) (omega arith) (omega arith) (omega arith) o
encoded_bytes (I.Add o) = on_data_lem 0x47 0x4F 0x5F (omega arith) (omega arith) (omega arith) o
encoded_bytes (I.AddImmediate n) = with_byte_lem 0x57 n (omega arith)
encoded_bytes (I.Sub o) = on_data_lem 0xC7 0xCF 0xDF (omega arith) (omega arith) (omega arith) o
encoded_bytes (I.SubImmediate n) = with_byte_lem 0xD7 n (omega arith)
encoded_bytes (I.And o) = on_data_lem 0xA7 0xAF 0xBF (omega arith) (omega arith) (omega arith) o
encoded_bytes (I.AndImmediate n) = with_byte_lem 0xB7 n (omega arith)
encoded_bytes (I.Cp o) = on_data_lem 0x27 0x2F 0x3F (omega arith) (omega arith) (omega arith) o
encoded_bytes (I.CpImmediate n) = with_byte_lem 0x37 n (omega arith)
encoded_bytes I.Com = one_byte 0x2D (omega arith)
encoded_bytes I.Rlc = one_byte 0xAD (omega arith)
encoded_bytes I.Ret = one_byte 0xCD (omega arith)
encoded_bytes I.Reti = one_byte 0x4D (omega arith)
encoded_bytes I.Stop = one_byte 0x6D (omega arith)
encoded_bytes I.Wait = one_byte 0xED (omega arith)

-- the bytes at the start of a 4K image of zeros
zero_bytes : (n : ℕ) → Bytes (replicate n 0)
zero_bytes zero = nil_bytes
zero_bytes (suc n) = cons_bytes 0 (replicate n 0) (omega arith) (zero_bytes n)

padded_bytes : (bs : List ℕ) (n : ℕ) → Bytes bs → Bytes (bs ++ replicate n 0)
padded_bytes [] n h = zero_bytes n
padded_bytes (b ∷ bs) n h = cons_bytes b (bs ++ replicate n 0) (h 0) (padded_bytes bs n (λ j. h (suc j)))

few_bytes : (e : Option Encoded) → length (bytes e) ≤ 3
few_bytes (Some (One a)) = omega arith
few_bytes (Some (Two a b)) = omega arith
few_bytes (Some (Three a b c)) = omega arith
few_bytes None = omega arith

placed_length : (bs : List ℕ) → length bs ≤ 3 → length (placed 0 bs) ≡ 4096
placed_length bs h = simp (length-append, length-replicate) (omega arith)

rom_of_4K : (image : List ℕ) → length image ≡ 4096 → (a : ℕ) → a < 4096 → rom_at image a ≡ Some (get_or image a 0)
unfolding rom_at
rom_of_4K image size a h =
    let index : a + 4096 - 4096 ≡ a = omega arith in
    rw (size, lt-ltb a 4096 h, le-leb 4096 (a + 4096) (omega arith), index)

placed_holds : (bs : List ℕ) → length bs ≤ 3 → Holds (placed 0 bs) 0 bs
placed_holds bs h j m =
    let here : forward_of 0 j ≡ j = omega arith in
    rw here
    (rom_of_4K (placed 0 bs) (placed_length bs h) j (omega arith)
    ∙ ap Some (get_or-append bs (replicate (4096 - 0 - length bs) 0) 0 j m))

-- an instruction that is not refused stands in that image
beyond_or_not : (e : Option Encoded) → (e ≡ None) ⊎ (e ≡ None → ⊥)
beyond_or_not (Some e) = inr (λ e. let z : ◌≡◌ {A = ℕ} 0 1 = cc in omega arith)
beyond_or_not None = inl refl

undecoded_beyond : (i : Instruction) → Undecoded i → encode_of i ≡ None
undecoded_beyond i never =
    let bs : List ℕ = bytes (encode_of i) in
    let few : length bs ≤ 3 = few_bytes (encode_of i) in
    let size : is_space (length (placed 0 bs)) ≡ true = rw (placed_length bs few) in
    let holds : Holds (space_of (placed 0 bs) 0) 0 bs = rw (space_is_image (placed 0 bs) 0 size) (placed_holds bs few) in
    ⊎_elim (λ e. e)
    (λ n. absurd (never (placed 0 bs) (padded_bytes bs (4096 - 0 - length bs) (encoded_bytes i)) 0 0 _ _
    (written_decodes i n (placed 0 bs) (space_image (placed 0 bs) size) 0 0 (omega arith) holds)))
    (beyond_or_not (encode_of i))

-- 8 is the answer exactly where there are no bytes
fitted_not_8 : (b : Bool) (n : ℕ) → cond b (done n) (refused (plain 9)) ≡ refused (plain 8) → ⊥
fitted_not_8 true n e = let z : ◌≡◌ {A = ℕ} 0 1 = cc in omega arith
fitted_not_8 false n e = let z : ◌≡◌ {A = ℕ} 9 8 = cc in omega arith

refused_beyond : (e : Option Encoded) (size : ℕ) → outcome e size ≡ refused (plain 8) → e ≡ None
unfolding outcome
refused_beyond (Some e) size q = absurd (fitted_not_8 (leb (length (bytes (Some e))) size) (length (bytes (Some e))) q)
refused_beyond None size q = refl

pub refused_exactly : RefusedExactly
unfolding outcome
refused_exactly i size =
    (λ q. beyond_undecoded i (refused_beyond (encode_of i) size q), λ never. rw (undecoded_beyond i never))
