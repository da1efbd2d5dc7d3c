-- Three small programs: each mark of the least certificates comes of a path, and a subroutine that calls itself has no
-- certificate.
use Prim.Native.Nat.{ℕ, zero, suc, ◌+◌, ◌-◌, ◌/◌, ◌%◌, ◌≤◌, ◌<◌}
use native.Mathlib.Nat.{add-zero}
use native.Mathlib.Omega.{arith}
use mathlib.Core.Path.{◌≡◌, refl, sym, ◌∙◌}
use mathlib.Core.Logic.{◌⊎◌, inl, inr, ◌≢◌}
use mathlib.Core.Bool.{true≢false}
use mathlib.Core.List.{List, [], ◌∷◌}
use lib.ListN.{length, get_or}
use Rattle.isa.specs.Map
use Rattle.isa.specs.Table
use Rattle.isa.specs.Rom
use Rattle.isa.specs.Decode
use Rattle.isa.specs.ControlFlow
use Rattle.isa.specs.Displacement.{forward_of}
use Rattle.isa.specs.Refusals.{done}
use Rattle.isa.specs.declared.Instruction.{Instruction}
use Rattle.isa.specs.declared.Source.TheVariants.{Nmi}
use Rattle.certificate.specs.Marks
use Rattle.certificate.specs.Marks.{mark_at, Marked, kind_at, need_at}
use Rattle.certificate.specs.Successors
use Rattle.certificate.specs.Levels
use Rattle.certificate.specs.Vectors.{vectors_found, source_found, vector_found}
use Rattle.certificate.specs.Check.{accepted, check_of, marks_found, mark_found, pages_found, decoded_found}
use Rattle.certificate.specs.Check.{flow_found}
use Rattle.certificate.specs.Rules.{Rules}
use Rattle.certificate.specs.Refusals.{None}
use Rattle.certificate.specs.Cases.{image11, certificate11}
use Rattle.certificate.proofs.Facts.{kind_of_lem}
use Rattle.certificate.proofs.Sound.{marked_in_rom}
use Rattle.certificate.proofs.Cases.{check_cases}
use Rattle.maker.specs.Reach.{Continues, jumps, branches, passes_by, calls, comes_back, ends_start_up, Leads}
use Rattle.maker.specs.Reach.{Reachable, at_reset, at_vector, onward, UsesLevels, here, along}
use Rattle.maker.specs.Least.{NoneAccepted, Least}
use Rattle.maker.specs.Make.{questions}
use Rattle.maker.specs.Cases.{branching_image, branching_certificate, recursive_image, IsMade, MakeCases}
use Rattle.maker.proofs.Reached.{taken}
use Rattle.maker.proofs.Refuted.{too_deep}
use Rattle.maker.proofs.Outcomes.{marked_or_not, rules_of, one_answer, refusals_exactly}

-- a mark's kind is that with which its address is reached, and its need what a path from there takes
record OnPaths (image : List ℕ) (wired a mark : ℕ) : Type 0 where
  reached : Reachable image wired a (mark / 16)
  takes : UsesLevels image a (mark / 16) (mark % 16)

module _ (image : List ℕ) (wired : ℕ) where
  -- each mark of a part
  abbrev AllOnPaths : (a : ℕ) → List ℕ → Type 0
  AllOnPaths a [] = Unit
  AllOnPaths a (zero ∷ certificate) = AllOnPaths (suc a) certificate
  AllOnPaths a (suc m ∷ certificate) = OnPaths image wired a (suc m) × AllOnPaths (suc a) certificate

  at_index : (a : ℕ) (certificate : List ℕ) → AllOnPaths a certificate → (i : ℕ) → i < length certificate →
      get_or certificate i 0 ≢ 0
      → OnPaths image wired (a + i) (get_or certificate i 0)
  at_index a [] all i h n = absurd (omega arith)
  at_index a (zero ∷ certificate) all zero h n = absurd (n refl)
  at_index a (suc m ∷ certificate) all zero h n = rw add-zero all.0
  at_index a (zero ∷ certificate) all (suc i) h n =
      let e : a + suc i ≡ suc a + i = omega arith in
      rw e (at_index (suc a) certificate all i (omega arith) n)
  at_index a (suc m ∷ certificate) all (suc i) h n =
      let e : a + suc i ≡ suc a + i = omega arith in
      rw e (at_index (suc a) certificate all.1 i (omega arith) n)

  -- an accepted certificate of a 2K image, all of whose marks are on paths, is the least
  module _ (certificate : List ℕ) (levels : ℕ) (size : length certificate ≡ 2048) (all : AllOnPaths 0x800 certificate)
      (accepts : check_of image certificate wired ≡ accepted levels) where
    on_paths : (a : ℕ) → Marked certificate a → OnPaths image wired a (mark_at certificate a)
    on_paths a n =
        let m = marked_in_rom certificate a n in
        let low = m.most in
        let high = m.least in
        let e : 0x800 + (a + length certificate - 4096) ≡ a = omega arith in
        rw m.mark
        (rw e at (at_index 0x800 certificate all (a + length certificate - 4096) (omega arith) (λ z. n (m.mark ∙ z))))

    only_reachable : (a : ℕ) → Marked certificate a → Reachable image wired a (kind_at certificate a)
    unfolding kind_at
    only_reachable a n =
        let w = ((rules_of accepts).marked a n).mark in
        rw (kind_of_lem (mark_at certificate a) w) (on_paths a n).reached

    no_smaller : (other : List ℕ) (number : ℕ) → check_of image other wired ≡ accepted number → (a : ℕ)
        → need_at certificate a ≤ need_at other a
    unfolding need_at
    no_smaller other number e a = go (marked_or_not certificate a)
      where
        go : (mark_at certificate a ≡ 0) ⊎ Marked certificate a → mark_at certificate a % 16 ≤ need_at other a
        go (inl z) = rw z (omega arith)
        go (inr n) =
            let p = on_paths a n in
            taken (rules_of e) a (mark_at certificate a / 16) (mark_at certificate a % 16) p.reached p.takes

    least_of : Least image wired certificate levels
    least_of = record { is_accepted = accepts; only_reachable = only_reachable; no_smaller = no_smaller }

-- the maker writes the least certificate
least_made : {image certificate : List ℕ} {wired levels : ℕ} → Least image wired certificate levels
    → IsMade image wired certificate levels
least_made {image} {certificate} {wired} {levels} least before after answer size makes =
    one_answer image wired before after certificate answer (done levels) makes (none, least)
  where
    rules : Rules image certificate wired levels
    rules = rules_of least.is_accepted

    none : None (questions image wired before)
    none = (
      λ p. true≢false (sym rules.image_length ∙ p),
      (λ p. true≢false (sym rules.sources ∙ p), (λ p. p size, (λ p. p certificate levels least.is_accepted, tt))),
    )

-- a mark, and those after it
mark : {image : List ℕ} {wired a m : ℕ} {More : Type 0} → Reachable image wired a (m / 16)
    → UsesLevels image a (m / 16) (m % 16) → More → OnPaths image wired a m × More
mark r t more = (record { reached = r; takes = t }, more)

-- an instruction leads on
decoding : {image : List ℕ} {a kind b kind' levels : ℕ} {i : Instruction} {bytes cycles : ℕ}
    → Decode.decode_at (Rom.space_of image 0) a ≡ done (Decode.instruction i bytes cycles)
    → Continues kind (ControlFlow.flow_of i a) (forward_of a bytes) b kind' levels → Leads image a kind b kind' levels
decoding {i = i} {bytes = bytes} {cycles = cycles} d g =
    record { bank = 0; instruction = i; bytes = bytes; cycles = cycles; decodes = d; goes_on = g }

-- where each instruction leads. P11: FFEh JP 880h; 880h RETI; 881h CALL 890h; 883h JP 881h
record Steps11 : Type 0 where
  start : Leads image11 0xFFE 1 0x880 1 0
  ends : Leads image11 0x880 1 0x881 2 0
  call : Leads image11 0x881 2 0x890 4 1
  back : Leads image11 0x881 2 0x883 2 0
  again : Leads image11 0x883 2 0x881 2 0

-- FFEh JP 880h; 880h JRZ 883h; 883h CALL 890h; 885h JP 881h
record StepsBranching : Type 0 where
  start : Leads branching_image 0xFFE 1 0x880 1 0
  branch : Leads branching_image 0x880 1 0x883 1 0
  pass : Leads branching_image 0x880 1 0x881 1 0
  call : Leads branching_image 0x883 1 0x890 4 1
  back : Leads branching_image 0x883 1 0x885 1 0

-- FFEh JP 880h; 880h CALL 890h; 890h CALL 890h
record StepsRecursive : Type 0 where
  start : Leads recursive_image 0xFFE 1 0x880 1 0
  call : Leads recursive_image 0x880 1 0x890 4 1
  itself : Leads recursive_image 0x890 4 0x890 4 1

steps : Steps11 × StepsBranching × StepsRecursive
unfolding Map.entry_of Table.bytes_of Table.cycles_of Map.form_as Map.form_of Rom.rom_at Rom.space_of Rom.page_of Rom.fixed_of Rom.operand_at Decode.decode_at
    ControlFlow.flow_of
steps = (
  record {
    start = decoding refl jumps;
    ends = decoding refl ends_start_up;
    call = decoding refl calls;
    back = decoding refl comes_back;
    again = decoding refl jumps;
  },
  record {
    start = decoding refl jumps;
    branch = decoding refl branches;
    pass = decoding refl passes_by;
    call = decoding refl calls;
    back = decoding refl comes_back;
  },
  record { start = decoding refl jumps; call = decoding refl calls; itself = decoding refl calls },
)

least11 : Least image11 0x01 certificate11 2
least11 = least_of image11 0x01 certificate11 2 refl all check_cases.p11
  where
    s : Steps11
    s = steps.0

    r880 : Reachable image11 0x01 0x880 1
    r880 = onward at_reset s.start

    r881 : Reachable image11 0x01 0x881 2
    r881 = onward r880 s.ends

    t881 : UsesLevels image11 0x881 2 1
    t881 = along s.call here

    t880 : UsesLevels image11 0x880 1 1
    t880 = along s.ends t881

    all : AllOnPaths image11 0x01 0x800 certificate11
    all =
        mark r880 t880
        (mark r881 t881
        (mark (onward r881 s.back) (along s.again t881)
        (mark (onward r881 s.call) here
        (mark (at_vector Nmi refl) here (mark at_reset (along s.start t880) tt)))))

branching_accepts : check_of branching_image branching_certificate 0x00 ≡ accepted 1
unfolding check_of marks_found mark_found pages_found decoded_found flow_found vectors_found source_found vector_found Marks.mark_at
    Marks.kind_at Marks.need_at Successors.placed Successors.successors_of Successors.all_have_kind Successors.covers_all
    Successors.successors_found Levels.source_levels Levels.levels_for Levels.levels_of Map.entry_of Table.bytes_of
    Table.cycles_of Map.form_as Map.form_of Rom.rom_at Rom.space_of Rom.page_of Rom.fixed_of Rom.operand_at Decode.decode_at ControlFlow.flow_of
branching_accepts = refl

least_branching : Least branching_image 0x00 branching_certificate 1
least_branching = least_of branching_image 0x00 branching_certificate 1 refl all branching_accepts
  where
    s : StepsBranching
    s = steps.1

    r880 : Reachable branching_image 0x00 0x880 1
    r880 = onward at_reset s.start

    r883 : Reachable branching_image 0x00 0x883 1
    r883 = onward r880 s.branch

    t883 : UsesLevels branching_image 0x883 1 1
    t883 = along s.call here

    t880 : UsesLevels branching_image 0x880 1 1
    t880 = along s.branch t883

    all : AllOnPaths branching_image 0x00 0x800 branching_certificate
    all =
        mark r880 t880
        (mark (onward r880 s.pass) here
        (mark r883 t883
        (mark (onward r883 s.back) here
        (mark (onward r883 s.call) here (mark at_reset (along s.start t880) tt)))))

-- each further call of itself takes one more level
none_recursive : (wired : ℕ) → NoneAccepted recursive_image wired
none_recursive wired =
    too_deep recursive_image wired 0x890 4 (onward (onward at_reset s.start) s.call) 7 (deeper 7) (omega arith)
  where
    s : StepsRecursive
    s = steps.2

    deeper : (n : ℕ) → UsesLevels recursive_image 0x890 4 n
    deeper zero = here
    deeper (suc n) =
        let e : suc n ≡ n + 1 = omega arith in
        rw e (along s.itself (deeper n))

pub make_cases : MakeCases
make_cases =
    record {
      p11 = least11;
      p11_made = least_made least11;
      branching = least_branching;
      branching_made = least_made least_branching;
      recursive = none_recursive;
      recursive_refused = λ before after answer size makes.
          (refusals_exactly recursive_image 0x00 before after answer makes).each.1.1.1.0.always
          (λ p. true≢false p, (λ p. true≢false p, (λ p. p size, tt))) (none_recursive 0x00);
    }
