-- Edges are noted while addresses are explored, and needs rise over them.
use Prim.Native.Nat.{ℕ, zero, suc, ◌+◌, ◌-◌, ◌*◌, ◌/◌, ◌%◌, ◌≤◌, ◌<◌}
use native.Mathlib.Omega.{arith}
use mathlib.Core.Path.{◌≡◌, refl, sym, ap, ◌∙◌}
use mathlib.Core.Logic.{◌≢◌}
use mathlib.Core.Bool.{Bool, true, false}
use mathlib.Core.List.{List, [], ◌∷◌}
use lib.Dec.{eqb}
use lib.ListN.{set}
use lib.Seq.{get_or-set_other}
use borrow.Author.Tests.{eqb-true, eqb-false, lt-ltb, le-ltb}
use Rattle.certificate.specs.Marks.{mark_at, kind_at, need_at}
use Rattle.maker.specs.declared.graph.Entry.{Entry}
use Rattle.maker.specs.declared.graph.Link as noted
use Rattle.maker.specs.Reach.{along}
use Rattle.maker.specs.Making.{Sound, Change, Kept, Worked, joined, Demanded, Edge, leaves, FirstEdge}
use Rattle.maker.specs.Making.{link_at, NoEdges, IsLink, Known, Explored, Raised, Spread}
use Rattle.maker.proofs.Rising.{then, by}
use Rattle.maker.proofs.Reached.{goes_bounded, has_mark}
use Rattle.maker.proofs.Following.{takes_need, kind_most}
use Rattle.maker.proofs.Final.{only_reachable}

pub kind_at_most : (certificate : List ℕ) (a : ℕ) → kind_at certificate a ≤ 4
unfolding kind_at
kind_at_most certificate a = kind_most (mark_at certificate a)

-- an edge leads to an address that has a kind, and takes at most one level
edge_bounded : {image certificate : List ℕ} {from to levels : ℕ} → Edge image certificate from to levels
    → (1 ≤ kind_at certificate to) × (levels ≤ 1)
edge_bounded {certificate = certificate} {from} {to} {levels} e =
    let b =
    goes_bounded (kind_at certificate from) _ _ to (kind_at certificate to) levels e.kind_least (kind_at_most
    certificate from)
    e.leads.goes_on in
    (b.0, b.2)

-- it stays one while kinds stay
edge_kept : {image before after : List ℕ} {from to levels : ℕ} → Kept before after
    → Edge image before from to levels → Edge image after from to levels
edge_kept {from = from} {to} kept e =
    let f = kept from e.kind_least in
    let t = kept to (edge_bounded e).0 in
    record { kind_least = rw f e.kind_least; leads = rw (f, t) e.leads }

known_kept : {image before after : List ℕ} {edges : List Entry} → Kept before after → Known image before edges
    → Known image after edges
known_kept kept known = record { edge = λ e n. edge_kept kept (known.edge e n) }

-- what is set is read again
set_here : (l : List Entry) (i : ℕ) (v : Entry) → link_at (set l i v) i ≢ 0 → link_at (set l i v) i ≡ v.link
set_here [] i v n = absurd (n refl)
set_here (m ∷ l) zero v n = refl
set_here (m ∷ l) (suc i) v n = set_here l i v n

-- the address that an edge leaves, by its number, with the first page ..
pub leaves_below : (e : ℕ) → e < 8192 → e / 2 ≡ leaves e
unfolding leaves
leaves_below e h = rw (lt-ltb e 8192 h)

pub first_page : (from : ℕ) → from < 4096 → FirstEdge from (from * 2)
first_page from h =
    record {
      first = sym (leaves_below (from * 2) (omega arith)) ∙ omega arith;
      second = sym (leaves_below (from * 2 + 1) (omega arith)) ∙ omega arith;
      numbered = omega arith;
    }

-- .. and with another
pub leaves_above : (e : ℕ) → 8192 ≤ e → ((e - 8192) / 16 + 4096 - 2) % 4096 ≡ leaves e
unfolding leaves
leaves_above e h = rw (le-ltb e 8192 h) (omega arith)

pub other_page : (from page : ℕ) → from < 4096 → (from + 2) % 4096 < 2050
    → FirstEdge from (8192 + (from + 2) % 4096 * 16 + page % 8 * 2)
other_page from page h k =
    let e = 8192 + (from + 2) % 4096 * 16 + page % 8 * 2 in
    record {
      first = sym (leaves_above e (omega arith)) ∙ omega arith;
      second = sym (leaves_above (e + 1) (omega arith)) ∙ omega arith;
      numbered = omega arith;
    }

-- an edge is noted
pub recorded_one : (edges : List Entry) (edge to levels earlier : ℕ) → (image certificate : List ℕ) → Known image certificate edges
    → Edge image certificate (leaves edge) to levels × Unit {0}
    → Known image certificate (set edges edge (record { link = to * 2 + levels % 2 + 1; earlier = earlier }))
recorded_one edges edge to levels earlier image certificate known each =
    record { edge = λ e n. go e n (eqb e edge) refl }
  where
    v : Entry
    v = record { link = to * 2 + levels % 2 + 1; earlier = earlier }

    go : (e : ℕ) → link_at (set edges edge v) e ≢ 0 → (t : Bool) → eqb e edge ≡ t
        → Edge image certificate (leaves e) ((link_at (set edges edge v) e - 1) / 2) ((link_at (set edges edge v) e -
        1) % 2)
    go e n true p =
        let same = eqb-true e edge p in
        let most = (edge_bounded each.0).1 in
        let here = set_here edges edge v (λ z. n (rw (same, z))) in
        let to_is : (to * 2 + levels % 2 + 1 - 1) / 2 ≡ to = omega arith in
        let levels-are : (to * 2 + levels % 2 + 1 - 1) % 2 ≡ levels = omega arith in
        rw (same, here, to_is, levels-are) each.0
    go e n false p =
        let other : link_at (set edges edge v) e ≡ link_at edges e =
        ap (λ (x : Entry). x.link)
        (get_or-set_other edges edge e v (record { link = 0; earlier = 0 }) (eqb-false e edge p)) in
        rw other (known.edge e (λ z. n (rw other z)))

-- an address is visited, and the edges that leave it are noted
pub explored_one : {image before after : List ℕ} {edges edges' : List Entry} {p : Change} {Q : List ℕ → Type 0}
    {P : List ℕ → List ℕ → Type 0}
    → ((image certificate : List ℕ) → Known image certificate edges → P image certificate →
    Known image certificate edges')
    → ((wired : ℕ) → Sound image wired before → Worked image wired Q before after p × P image after)
    → Explored image before after edges edges' p
explored_one {image} {after = after} r v wired s known =
    let t = v wired s in
    (by (λ z. tt) t.0, r image after (known_kept t.0.kept known) t.1)

-- .. and none are noted
pub explored_kept : {image before after : List ℕ} {edges : List Entry} {p : Change} {Q : List ℕ → Type 0} {R : Type 0}
    → ((wired : ℕ) → Sound image wired before → Worked image wired Q before after p × R)
    → Explored image before after edges edges p
explored_kept v wired s known =
    let t = (v wired s).0 in
    (by (λ z. tt) t, known_kept t.kept known)

pub explored_more : {image before middle after : List ℕ} {edges edges' edges'' : List Entry} {p q : Change}
    → Explored image before middle edges edges' p → Explored image middle after edges' edges'' q
    → Explored image before after edges edges'' (joined p q)
explored_more f g wired s known =
    let t = f wired s known in
    let u = g wired t.0.sound t.1 in
    (by (λ z. tt) (then t.0 u.0), u.1)

-- needs are raised
pub raised_one : {before after : List ℕ} {edges : List Entry} {p : Change} (number : ℕ) {link : noted.Link}
    → IsLink edges number link
    → Demanded before after (leaves number) (kind_at before (leaves number)) (need_at before link.to + link.levels) p
    → Raised before after edges edges p
raised_one {before = before} number {link} l d image wired s known =
    let edge = rw (l.to_is, l.levels_are) at (known.edge number l.noted) in
    let from = leaves number in
    let r = only_reachable s from (has_mark before from (kind_at before from) refl edge.kind_least) in
    let t = takes_need link.to (kind_at before link.to) s refl (edge_bounded edge).0 in
    let u = (d image wired s r (along edge.leads t)).0 in
    (by (λ z. tt) u, known_kept u.kept known)

-- addresses are explored where no edge is noted yet, then needs are raised
pub spreads : {image before after : List ℕ} {edges edges' : List Entry} {p : Change} → NoEdges edges
    → Explored image before after edges edges' p → Spread image before after p
spreads none f wired s = (f wired s (record { edge = λ e n. absurd (n (none e)) })).0
