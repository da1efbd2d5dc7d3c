-- Successors are followed, and an address is visited.
use Prim.Native.Nat.{ℕ, ◌+◌, ◌/◌, ◌%◌, ◌≤◌, ◌<◌}
use native.Mathlib.Omega.{arith}
use mathlib.Core.Path.{◌≡◌, refl, sym, ◌∙◌}
use mathlib.Core.Bool.{Bool, true, false, cond, ◌&&◌}
use mathlib.Core.List.{List, [], ◌∷◌}
use lib.Dec.{leb, eqb}
use borrow.Author.Tests.{leb-true, eqb-true}
use Rattle.isa.specs.Rom.{space_of}
use Rattle.isa.proofs.Halves.{is_space_lem}
use Rattle.isa.specs.Decode as decode
use Rattle.isa.specs.Decode.{Decoding, decode_of, decode_at}
use Rattle.isa.specs.Displacement.{forward_of}
use Rattle.isa.specs.FlowAt.{goes, continuation_from}
use Rattle.isa.specs.ControlFlow.{flow_of}
use Rattle.isa.specs.Refusals.{Numbered, Answer, done, refused}
use Rattle.isa.specs.declared.Instruction.{Instruction}
use Rattle.isa.specs.declared.Flow.{Flow}
use Rattle.isa.specs.declared.Flow.TheVariants as flow
use Rattle.isa.proofs.AtAddress.{in_range}
use Rattle.certificate.specs.Marks.{mark_at, Marked, WellFormed, kind_of, kind_at, need_at}
use Rattle.certificate.specs.declared.marks.Kind.{Kind}
use Rattle.certificate.specs.declared.marks.Kind.TheVariants.{StartUp, Main, Service, Subroutine}
use Rattle.certificate.specs.Marks.{kind_number}
use Rattle.certificate.specs.Successors.{Successor, placed, successors_of, continues_at, listed}
use Rattle.certificate.specs.Links.{Link, Every}
use Rattle.certificate.specs.Rules.{Runs}
use Rattle.certificate.proofs.Facts.{kind_of_lem}
use Rattle.certificate.proofs.Links.{flow_rule_exactly}
use Rattle.certificate.proofs.Sound.{marked_in_rom}
use Rattle.certificate.specs.declared.successors.Successors.{Successors}
use Rattle.certificate.specs.declared.successors.Successors.TheVariants.{None}
use Rattle.std.specs.Prelude.{Some, Result, Ok, Err, OnOk}
use Rattle.maker.specs.declared.Impossible.{Impossible}
use Rattle.maker.specs.declared.Visit.{Visit}
use Rattle.maker.specs.Reach.{Continues, goes_next, wakes, jumps, branches, passes_by, calls, comes_back}
use Rattle.maker.specs.Reach.{ends_start_up, Reachable, onward, UsesLevels, here, along}
use Rattle.maker.specs.Making.{Sound, Change, Kept, Worked, joined, Demanded, Small, LeadsTo, HasKind, Followed}
use Rattle.maker.specs.Making.{EdgeTo, RunsAt, Visited}
use Rattle.maker.proofs.Rising.{then, by}
use Rattle.maker.proofs.Reached.{goes_bounded, reached_kind, has_mark}
use Rattle.maker.proofs.Refuted.{undecodable, misplaced}
use Rattle.maker.proofs.Demands.{refuted}
use Rattle.maker.proofs.Final.{only_reachable}

-- the need of an address of a kind is what a path takes
pub takes_need : {image certificate : List ℕ} {wired : ℕ} (a kind : ℕ) → Sound image wired certificate →
    kind_at certificate a ≡ kind
    → 1 ≤ kind → UsesLevels image a kind (need_at certificate a)
unfolding kind_at need_at
takes_need {image} {certificate} {wired} a kind s k h =
    let f = s.forced a (has_mark certificate a kind k h) in
    let e : mark_at certificate a / 16 ≡ kind = sym (kind_of_lem (mark_at certificate a) f.formed) ∙ k in
    rw e at f.takes

-- what holds anyway
on_ok : {A E P : Type 0} (r : Result A E) → P → OnOk r P
on_ok (Ok x) p = p
on_ok (Err e) p = tt

module _ {before middle : List ℕ} {a kind : ℕ} {s : Successor} where
  pub stops : {e : Impossible} → Demanded before middle s.address s.kind 0 (Err e)
      → Followed before middle a kind (s ∷ []) (Err e)
  stops d image wired so r each =
      let t = d image wired so (onward r each.0) here in
      (record { sound = t.0.sound; told = t.0.told; kept = t.0.kept }, tt)

  pub follows : {after : List ℕ} {marked : Bool} {q : Change} → Demanded before middle s.address s.kind 0 (Ok marked)
      → Demanded middle after a kind (need_at middle s.address + s.levels) q
      → Followed before after a kind (s ∷ []) (joined (Ok marked) q)
  follows {after} {marked} {q} d e image wired so r each =
      let reach = onward r each.0 in
      let t = d image wired so reach here in
      let kind_least = (reached_kind s.address s.kind reach).0 in
      let need = takes_need s.address s.kind t.0.sound t.1.kind_is kind_least in
      let u = (e image wired t.0.sound r (along each.0 need)).0 in
      let v : Worked image wired (λ m. need_at m s.address + s.levels ≤ need_at m a) middle after q =
      by (λ z. z.need_least) u in
      let k = t.1.kind_is in (
        by (λ z. (record { kind = z.0.kind_is; need = z.1 }, tt)) (then t.0 v),
        on_ok (joined (Ok marked) q) (u.kept s.address (rw k kind_least) ∙ k, tt),
      )

-- what was done, and then nothing
joined_same : (p : Change) → joined p (Ok false) ≡ p
joined_same (Ok false) = refl
joined_same (Ok true) = refl
joined_same (Err impossible) = refl

-- no level is needed there, and so none here
pub follows_free : {before middle : List ℕ} {a kind : ℕ} {s : Successor} {marked : Bool}
    → Demanded before middle s.address s.kind 0 (Ok marked)
    → need_at middle s.address + s.levels ≡ 0 → Followed before middle a kind (s ∷ []) (Ok marked)
follows_free {before} {middle} {a} {kind} {s} {marked} d free image wired so r each =
    let t = d image wired so (onward r each.0) here in
    let v : Worked image wired (λ m. need_at m s.address + s.levels ≤ need_at m a) middle middle (Ok false) =
    record { sound = t.0.sound; told = (refl, omega arith); kept = λ b h. refl } in (
      rw (← joined_same (Ok marked)) (by (λ z. (record { kind = z.0.kind_is; need = z.1 }, tt)) (then t.0 v)),
      (t.1.kind_is, tt),
    )

-- what holds of every successor, put otherwise
every_by : {P Q : Successor → Type 0} → ((s : Successor) → P s → Q s) → (l : List Successor) → Every P l → Every Q l
every_by f [] e = tt
every_by f (s ∷ l) e = (f s e.0, every_by f l e.1)

every_both : {P Q R : Successor → Type 0} → ((s : Successor) → P s → Q s → R s) → (l : List Successor) → Every P l
    → Every Q l → Every R l
every_both f [] p q = tt
every_both f (s ∷ l) p q = (f s p.0 q.0, every_both f l p.1 q.1)

-- code goes on at its successors
abbrev GoesTo : (kind : ℕ) → Flow → (next : ℕ) → Successor → Type 0
GoesTo kind f n s = Continues kind f n s.address s.kind s.levels

every_goes : (kind : ℕ) (f : Flow) (n : ℕ) → Every (GoesTo kind f n) (successors_of kind f n)
unfolding successors_of
every_goes kind flow.Next n = (goes_next, tt)
every_goes kind (flow.Jump t) n = (jumps, tt)
every_goes kind (flow.Branch c t) n = (branches, (passes_by, tt))
every_goes kind (flow.Call t) n = (calls, (comes_back, tt))
every_goes kind flow.Return n = tt
every_goes kind flow.ReturnFromInterrupt n = go (eqb kind 1) refl
  where
    go : (t : Bool) → eqb kind 1 ≡ t
        → Every (GoesTo kind flow.ReturnFromInterrupt n) (cond t (continues_at n 2 ∷ []) [])
    go true p = let e = eqb-true kind 1 p in rw e (ends_start_up, tt)
    go false p = tt
every_goes kind flow.Sleep n = (wakes, tt)

pub kind_most : (mark : ℕ) → kind_of mark ≤ 4
kind_most mark = go (leb (mark / 16) 4) (leb (mark % 16) 6) refl
  where
    go : (s t : Bool) → leb (mark / 16) 4 ≡ s → cond (s && t) (mark / 16) 0 ≤ 4
    go true true p = leb-true _ _ p
    go true false p = omega arith
    go false t p = omega arith

-- a kind's number
pub kind_bounds : (kind : Kind) → (1 ≤ kind_number (Some kind)) × (kind_number (Some kind) ≤ 4)
kind_bounds StartUp = (omega arith, omega arith)
kind_bounds Main = (omega arith, omega arith)
kind_bounds Service = (omega arith, omega arith)
kind_bounds Subroutine = (omega arith, omega arith)

-- the successors of code are small
pub successors_small : (kind : Kind) {l : List Successor} (f : Flow) (n : ℕ)
    → l ≡ successors_of (kind_number (Some kind)) f n → Every Small l
successors_small kind f next e =
    let k = kind_number (Some kind) in
    let b = kind_bounds kind in
    rw e (every_by {Q = Small} (λ s g. (goes_bounded k f next s.address s.kind s.levels b.0 b.1 g).2)
    (successors_of k f next) (every_goes k f next))

-- what decoding answers, by where its instruction continues
pub record Continued (a : ℕ) (d : Answer Decoding) (f : Flow) (n : ℕ) : Type 0 where
  pub i : Instruction
  pub bytes : ℕ
  pub cycles : ℕ
  pub decodes : done (decode.instruction i bytes cycles) ≡ d
  pub flow_is : f ≡ flow_of i a
  pub next_is : n ≡ forward_of a bytes

pub continues : (a : ℕ) (d : Answer Decoding) (f : Flow) (n : ℕ) → done (goes f n) ≡ continuation_from a d
    → Continued a d f n
continues a (done (decode.instruction i bytes cycles)) f n e =
    record { i = i; bytes = bytes; cycles = cycles; decodes = refl; flow_is = cc; next_is = cc }
continues a (refused r) f n e = absurd (let z : ◌≡◌ {A = ℕ} 0 1 = cc in omega arith)

pub refused_by : (a : ℕ) (d : Answer Decoding) {r : Numbered} → refused r ≡ continuation_from a d → refused r ≡ d
refused_by a (done (decode.instruction i bytes cycles)) e = absurd (let z : ◌≡◌ {A = ℕ} 0 1 = cc in omega arith)
refused_by a (refused q) e = cc

-- an address of a kind is a program address
pub in_space : (certificate : List ℕ) (a : ℕ) (kind : Kind) → kind_number (Some kind) ≡ kind_at certificate a → a < 4096
in_space certificate a kind k =
    (marked_in_rom certificate a (has_mark certificate a (kind_number (Some kind)) (sym k) (kind_bounds kind).0)).most

-- the successors, by the instruction
as_flow : (kind : ℕ) {n m : ℕ} {l : List Successor} {f g : Flow} → l ≡ successors_of kind f n → f ≡ g → n ≡ m
    → l ≡ successors_of kind g m
as_flow kind e p q = e ∙ rw (p, q)

-- a visit, by what following its successors did
abbrev pub visit_by : Change → Successors Kind → Result Visit Impossible
visit_by (Ok changed) successors = Ok record { changed = changed; successors = successors }
visit_by (Err e) successors = Err e

-- the address has no mark
pub visits_none : (image certificate : List ℕ) (page a : ℕ) → 0 ≡ kind_at certificate a
    → Visited image certificate certificate page a (Ok record { changed = false; successors = None })
unfolding kind_at
visits_none image certificate page a kind_is wired s =
    (record { sound = s; told = (refl, λ m. absurd (contradicts m)); kept = λ b h. refl }, tt)
  where
    contradicts : Marked certificate a → ⊥
    contradicts m =
        let w = (s.forced a m).formed in
        omega (arith, kind_is, kind_of_lem (mark_at certificate a) w, w.kind_least)

-- it has a mark of a kind
module _ (image certificate : List ℕ) (page a : ℕ) (kind : Kind) (kind_is : kind_number (Some kind) ≡ kind_at certificate a) where
  mark_here : Marked certificate a
  mark_here = has_mark certificate a (kind_number (Some kind)) (sym kind_is) (kind_bounds kind).0

  reach : {wired : ℕ} → Sound image wired certificate → Reachable image wired a (kind_number (Some kind))
  reach s = rw kind_is (only_reachable s a mark_here)

  -- what decoding answers, of an image and an address in ROM
  decodes_at : {wired : ℕ} → Sound image wired certificate → {d : Answer Decoding} →
      d ≡ decode_of (space_of image page) a
      → decode_at (space_of image page) a ≡ d
  decodes_at s e =
      sym (e ∙ in_range (space_of image page) a (is_space_lem image page s.image_length)
      (marked_in_rom certificate a mark_here).most)

  pub visits_undecodable : {e : Impossible} {r : Numbered} → refused r ≡ continuation_from a (decode_of (space_of image page) a)
      → Visited image certificate certificate page a (Err e)
  visits_undecodable {r = r} d wired s =
      let answer = decodes_at s (refused_by a (decode_of (space_of image page) a) d) in
      (refuted s (undecodable image wired a (kind_number (Some kind)) (reach s) page r answer), tt)

  -- .. and an instruction stands there
  module _ {i : Instruction} {bytes cycles : ℕ} (d : done (decode.instruction i bytes cycles) ≡ decode_of (space_of image page) a) where
    misplaced_here : {e : Impossible} → placed (kind_number (Some kind)) (flow_of i a) ≡ false →
        Visited image certificate certificate page a (Err e)
    misplaced_here p wired s =
        (refuted s (misplaced image wired a (kind_number (Some kind)) (reach s) page i bytes cycles (decodes_at s d) p), tt)

    lawful : {wired : ℕ} → Sound image wired certificate → placed (kind_number (Some kind)) (flow_of i a) ≡ true
        → Every (Link certificate a) (successors_of (kind_number (Some kind)) (flow_of i a) (forward_of a bytes)) →
        WellFormed (mark_at certificate a) × Runs (space_of image page) certificate a
    lawful s p links =
        let rule =
        (flow_rule_exactly certificate a (flow_of i a) (forward_of a bytes)).rule
        (record { stands = rw (← kind_is) p; links = rw (← kind_is) links }) in (
          (s.forced a mark_here).formed,
          record { instruction = i; bytes = bytes; cycles = cycles; decodes = decodes_at s d; rule = rule },
        )

    -- what follows from its successors
    module _ (successors : Successors Kind)
        (l : listed successors ≡ successors_of (kind_number (Some kind)) (flow_of i a) (forward_of a bytes)) where
      every_leads : {wired : ℕ} → Sound image wired certificate
          → Every (LeadsTo image a (kind_number (Some kind))) (listed successors)
      every_leads s =
          rw l
          (every_by {Q = LeadsTo image a (kind_number (Some kind))}
          (λ t g. record { bank = page; instruction = i; bytes = bytes; cycles = cycles; decodes = decodes_at s d; goes_on = g })
          (successors_of (kind_number (Some kind)) (flow_of i a) (forward_of a bytes))
          (every_goes (kind_number (Some kind)) (flow_of i a) (forward_of a bytes)))

      -- the marks, by what following them did
      followed : {wired : ℕ} {after : List ℕ} {p : Change} → Sound image wired certificate
          → placed (kind_number (Some kind)) (flow_of i a) ≡ true
          → Followed certificate after a (kind_number (Some kind)) (listed successors) p
          → Worked image wired (RunsAt image page a) certificate after p
      followed {wired} s q g =
          by (λ links. λ m. lawful s q (rw l at links)) (g image wired s (reach s) (every_leads s)).0

      edge_to : {after : List ℕ} → Kept certificate after → (t : Successor) → LeadsTo image a (kind_number (Some kind)) t
          → HasKind after t → EdgeTo image after a t
      edge_to {after} kept t leads k =
          let least = (kind_bounds kind).0 in
          let e : kind_at after a ≡ kind_number (Some kind) = kept a (rw (← kind_is) least) ∙ sym kind_is in
          record { kind_least = rw e least; leads = rw (e, k) leads }

      visited : {after : List ℕ} (p : Change) → placed (kind_number (Some kind)) (flow_of i a) ≡ true
          → Followed certificate after a (kind_number (Some kind)) (listed successors) p
          → Visited image certificate after page a (visit_by p successors)
      visited (Ok changed) q g wired s =
          let u = g image wired s (reach s) (every_leads s) in
          (followed s q g, every_both (edge_to u.0.kept) (listed successors) (every_leads s) u.1)
      visited (Err e) q g wired s = (followed s q g, tt)

  -- .. as the program finds it
  module _ {f : Flow} {n : ℕ} (d : done (goes f n) ≡ continuation_from a (decode_of (space_of image page) a)) where
    pub visits_misplaced : {e : Impossible} → placed (kind_number (Some kind)) f ≡ false →
        Visited image certificate certificate page a (Err e)
    visits_misplaced p =
        let c = continues a (decode_of (space_of image page) a) f n d in
        misplaced_here c.decodes (rw c.flow_is at p)

    pub visits : {after : List ℕ} (successors : Successors Kind) (p : Change) → placed (kind_number (Some kind)) f ≡ true
        → listed successors ≡ successors_of (kind_number (Some kind)) f n
        → Followed certificate after a (kind_number (Some kind)) (listed successors) p
        → Visited image certificate after page a (visit_by p successors)
    visits successors p q l g =
        let c = continues a (decode_of (space_of image page) a) f n d in
        visited c.decodes successors (as_flow (kind_number (Some kind)) l c.flow_is c.next_is) p (rw c.flow_is at q) g
