-- An instruction's rule holds exactly when its links do, and its successors pass the check's tests exactly then too.
use Prim.Native.Nat.{ℕ, ◌≤◌}
use native.Mathlib.Nat.{add-zero}
use native.Mathlib.Omega.{arith}
use mathlib.Core.Path.{◌≡◌, refl}
use mathlib.Core.Logic.{◌⊎◌, inl, inr}
use mathlib.Core.Bool.{Bool, true, false, cond, ◌||◌, and-eq-true_iff}
use mathlib.Core.List.{List, [], ◌∷◌}
use lib.Dec.{eqb}
use borrow.Author.Tests.{leb-true, le-leb, eqb-true, eq-eqb, ne_eqb}
use Rattle.isa.specs.Refusals.{located}
use Rattle.isa.specs.declared.Flow.{Flow}
use Rattle.isa.specs.declared.Flow.TheVariants as flow
use Rattle.certificate.specs.Successors.{Successor}
use Rattle.certificate.specs.Findings.{passes}
use Rattle.certificate.specs.Marks.{kind_at, need_at}
use Rattle.certificate.specs.Successors.{placed, continues_at, successors_of, all_have_kind, covers_all}
use Rattle.certificate.specs.Successors.{successors_found}
use Rattle.certificate.specs.Rules.{Continues, EndsStartUp, FlowRule}
use Rattle.certificate.specs.Links.{Link, Every, Linked, FlowRuleExactly}
use Rattle.certificate.proofs.Facts.{unless_passes}

module _ (certificate : List ℕ) (a : ℕ) where
  link_to : (n kind : ℕ) → kind_at certificate n ≡ kind → need_at certificate n ≤ need_at certificate a
      → Link certificate a (continues_at n kind)
  link_to n kind k l = record { kind = k; need = rw add-zero l }

  same_kind : (n : ℕ) → Continues certificate a n → Link certificate a (continues_at n (kind_at certificate a))
  same_kind n c = link_to n (kind_at certificate a) c.kind c.need

  need_of_link : {n kind : ℕ} → Link certificate a (continues_at n kind) → need_at certificate n ≤ need_at certificate a
  need_of_link {n} l = rw add-zero at l.need

  continues : (n : ℕ) → Link certificate a (continues_at n (kind_at certificate a)) → Continues certificate a n
  continues n l = record { kind = l.kind; need = need_of_link l }

  linked : (f : Flow) (n : ℕ) → FlowRule certificate a f n → Linked certificate a f n
  unfolding placed successors_of
  linked flow.Next n r = record { stands = refl; links = (same_kind n r, tt) }
  linked (flow.Jump t) n r = record { stands = refl; links = (same_kind t r, tt) }
  linked (flow.Branch b t) n r = record { stands = refl; links = (same_kind t r.0, (same_kind n r.1, tt)) }
  linked (flow.Call t) n r =
      record {
        stands = refl;
        links = (record { kind = r.target_kind; need = r.target_need }, (same_kind n r.back, tt));
      }
  linked flow.Return n r = record { stands = eq-eqb _ 4 r; links = tt }
  linked flow.ReturnFromInterrupt n (inl k) =
      let no : eqb (kind_at certificate a) 1 ≡ false = ne_eqb _ 1 (λ (z : kind_at certificate a ≡ 1). omega arith) in
      record { stands = rw no (eq-eqb _ 3 k); links = rw no tt }
  linked flow.ReturnFromInterrupt n (inr e) =
      let yes : eqb (kind_at certificate a) 1 ≡ true = eq-eqb _ 1 e.kind in
      record { stands = rw yes; links = rw yes (link_to n 2 e.next_kind e.next_need, tt) }
  linked flow.Sleep n r = record { stands = refl; links = (same_kind n r, tt) }

  -- RETI: of a service, or of start-up code
  reti_rule : (n : ℕ) (start : Bool) → eqb (kind_at certificate a) 1 ≡ start
      → (start || eqb (kind_at certificate a) 3) ≡ true
      → Every (Link certificate a) (cond start (continues_at n 2 ∷ []) [])
      → (kind_at certificate a ≡ 3) ⊎ EndsStartUp certificate a n
  reti_rule n false s p l = inl (eqb-true _ 3 p)
  reti_rule n true s p l =
      inr (record { kind = eqb-true _ 1 s; next_kind = l.0.kind; next_need = need_of_link l.0 })

  rule : (f : Flow) (n : ℕ) → Linked certificate a f n → FlowRule certificate a f n
  unfolding placed successors_of
  rule flow.Next n l = continues n l.links.0
  rule (flow.Jump t) n l = continues t l.links.0
  rule (flow.Branch b t) n l = (continues t l.links.0, continues n l.links.1.0)
  rule (flow.Call t) n l =
      record { target_kind = l.links.0.kind; target_need = l.links.0.need; back = continues n l.links.1.0 }
  rule flow.Return n l = eqb-true _ 4 l.stands
  rule flow.ReturnFromInterrupt n l = reti_rule n (eqb (kind_at certificate a) 1) refl l.stands l.links
  rule flow.Sleep n l = continues n l.links.0

  -- links and the tests 16 and 17
  kinds_pass : (successors : List Successor) → Every (Link certificate a) successors
      → all_have_kind certificate successors ≡ true
  unfolding all_have_kind
  kinds_pass [] l = refl
  kinds_pass (s ∷ successors) l = rw (eq-eqb _ _ l.0.kind) (kinds_pass successors l.1)

  needs_pass : (successors : List Successor) → Every (Link certificate a) successors
      → covers_all certificate (need_at certificate a) successors ≡ true
  unfolding covers_all
  needs_pass [] l = refl
  needs_pass (s ∷ successors) l = rw (le-leb _ _ l.0.need) (needs_pass successors l.1)

  pub links_pass : (successors : List Successor) → Every (Link certificate a) successors
      → successors_found certificate a (need_at certificate a) successors ≡ passes
  unfolding successors_found
  links_pass successors l = rw (kinds_pass successors l, needs_pass successors l)

  links_of : (successors : List Successor) → all_have_kind certificate successors ≡ true
      → covers_all certificate (need_at certificate a) successors ≡ true → Every (Link certificate a) successors
  unfolding all_have_kind covers_all
  links_of [] k l = tt
  links_of (s ∷ successors) k l =
      let k₂ = (and-eq-true_iff _ _).0 k in
      let l₂ = (and-eq-true_iff _ _).0 l in
      (record { kind = eqb-true _ _ k₂.0; need = leb-true _ _ l₂.0 }, links_of successors k₂.1 l₂.1)

  pub pass_links : (successors : List Successor)
      → successors_found certificate a (need_at certificate a) successors ≡ passes
      → Every (Link certificate a) successors
  unfolding successors_found
  pass_links successors e =
      let k = unless_passes (all_have_kind certificate successors) (located 16 a) _ e in
      let l = unless_passes (covers_all certificate (need_at certificate a) successors) (located 17 a) _ k.1 in
      links_of successors k.0 l.0

-- An instruction's rule holds exactly when its links do.
pub flow_rule_exactly : FlowRuleExactly
flow_rule_exactly certificate a f n = record { linked = linked certificate a f n; rule = rule certificate a f n }
