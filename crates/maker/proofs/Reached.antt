-- Every accepted certificate marks what the program reaches, with that kind, and its need there is at least what any
-- path takes.
use Prim.Native.Nat.{ℕ, ◌+◌, ◌≤◌}
use native.Mathlib.Nat.{add-zero}
use native.Mathlib.Omega.{arith}
use mathlib.Core.Path.{◌≡◌, ◌∙◌}
use mathlib.Core.Logic.{◌⊎◌, inl, inr}
use mathlib.Core.List.{List}
use Rattle.isa.specs.declared.Flow.{Flow}
use Rattle.certificate.specs.Marks.{Marked, kind_at, need_at}
use Rattle.certificate.specs.Rules.{EndsStartUp, FlowRule, Rules}
use Rattle.certificate.specs.Rules as certified
use Rattle.maker.specs.Reach.{Continues, goes_next, wakes, jumps, branches, passes_by, calls, comes_back}
use Rattle.maker.specs.Reach.{ends_start_up, Leads, Reachable, at_reset, at_vector, onward}
use Rattle.maker.specs.Reach.{UsesLevels, here, along}

-- kinds go from 1 to 4, and a step takes at most one level
pub goes_bounded : (kind : ℕ) (f : Flow) (n b kind' levels : ℕ) → 1 ≤ kind → kind ≤ 4
    → Continues kind f n b kind' levels → (1 ≤ kind') × (kind' ≤ 4) × (levels ≤ 1)
goes_bounded kind f n b kind' levels h m goes_next = (h, m, omega arith)
goes_bounded kind f n b kind' levels h m wakes = (h, m, omega arith)
goes_bounded kind f n b kind' levels h m jumps = (h, m, omega arith)
goes_bounded kind f n b kind' levels h m branches = (h, m, omega arith)
goes_bounded kind f n b kind' levels h m passes_by = (h, m, omega arith)
goes_bounded kind f n b kind' levels h m calls = (omega arith, omega arith, omega arith)
goes_bounded kind f n b kind' levels h m comes_back = (h, m, omega arith)
goes_bounded kind f n b kind' levels h m ends_start_up = (omega arith, omega arith, omega arith)

pub reached_kind : {image : List ℕ} {wired : ℕ} (a kind : ℕ) → Reachable image wired a kind → (1 ≤ kind) × (kind ≤ 4)
reached_kind a kind at_reset = (omega arith, omega arith)
reached_kind a kind (at_vector s w) = (omega arith, omega arith)
reached_kind a kind (onward {a = b} {kind = k} {levels = levels} r leads) =
    let p = reached_kind b k r in
    let q = goes_bounded k _ _ a kind levels p.0 p.1 leads.goes_on in
    (q.0, q.1)

module _ (certificate : List ℕ) where
  -- what the rules say of an address to which one at a leads
  record Follows (a b kind levels : ℕ) : Type 0 where
    kind_is : kind_at certificate b ≡ kind
    need_most : need_at certificate b + levels ≤ need_at certificate a

  continues : {a b kind : ℕ} → certified.Continues certificate a b → kind_at certificate a ≡ kind → Follows a b kind 0
  continues c k = record { kind_is = c.kind ∙ k; need_most = rw add-zero c.need }

  ends : {a n : ℕ} → (kind_at certificate a ≡ 3) ⊎ EndsStartUp certificate a n → kind_at certificate a ≡ 1
      → Follows a n 2 0
  ends (inl e) k = absurd (omega arith)
  ends (inr e) k = record { kind_is = e.next_kind; need_most = rw add-zero e.next_need }

  follows : (a kind : ℕ) (f : Flow) (n b kind' levels : ℕ) → Continues kind f n b kind' levels
      → FlowRule certificate a f n → kind_at certificate a ≡ kind → Follows a b kind' levels
  follows a kind f n b kind' levels goes_next r k = continues r k
  follows a kind f n b kind' levels wakes r k = continues r k
  follows a kind f n b kind' levels jumps r k = continues r k
  follows a kind f n b kind' levels branches r k = continues r.0 k
  follows a kind f n b kind' levels passes_by r k = continues r.1 k
  follows a kind f n b kind' levels calls r k = record { kind_is = r.target_kind; need_most = r.target_need }
  follows a kind f n b kind' levels comes_back r k = continues r.back k
  follows a kind f n b kind' levels ends_start_up r k = ends r k

  -- an address of a kind has a mark
  pub has_mark : (a kind : ℕ) → kind_at certificate a ≡ kind → 1 ≤ kind → Marked certificate a
  unfolding kind_at
  has_mark a kind k h e = bad (rw e at k)
    where
      bad : 0 ≡ kind → ⊥
      bad z = omega arith

module _ {image certificate : List ℕ} {wired number : ℕ} (rules : Rules image certificate wired number) where
  led : (a kind b kind' levels : ℕ) → kind_at certificate a ≡ kind → 1 ≤ kind → Leads image a kind b kind' levels
      → Follows certificate a b kind' levels
  led a kind b kind' levels k h leads =
      let runs = (rules.marked a (has_mark certificate a kind k h)).runs leads.bank in
      let d = runs.decodes in
      let d' = leads.decodes in
      let i : runs.instruction ≡ leads.instruction = cc in
      let n : runs.bytes ≡ leads.bytes = cc in
      follows certificate a kind _ _ b kind' levels leads.goes_on (rw (i, n) at runs.rule) k

  -- what is reached has its kind
  pub reached : (a kind : ℕ) → Reachable image wired a kind → kind_at certificate a ≡ kind
  reached a kind at_reset = rules.start_up
  reached a kind (at_vector s w) = rules.vectors s w
  reached a kind (onward {a = b} {kind = k} {levels = levels} r leads) =
      (led b k a kind levels (reached b k r) (reached_kind b k r).0 leads).kind_is

  -- and its need is at least what any path from there takes
  pub taken : (a kind levels : ℕ) → Reachable image wired a kind → UsesLevels image a kind levels
      → levels ≤ need_at certificate a
  taken a kind levels r here = omega arith
  taken a kind levels r (along {b = b} {kind' = kind'} {levels = one} {more = more} leads t) =
      let q = (led a kind b kind' one (reached a kind r) (reached_kind a kind r).0 leads).need_most in
      let more-most = taken b kind' more (onward r leads) t in
      omega arith
