-- What no accepted certificate can have: each is a reason for 26.
use Prim.Native.Nat.{ℕ, ◌+◌, ◌≤◌, ◌<◌}
use native.Mathlib.Omega.{arith}
use mathlib.Core.Path.{◌≡◌, sym, ◌∙◌}
use mathlib.Core.Logic.{◌⊎◌, inl, inr, ◌≢◌}
use mathlib.Core.Bool.{false, false≢true}
use mathlib.Core.List.{List}
use lib.ListN.{length}
use Rattle.isa.specs.Rom.{space_of}
use Rattle.certificate.specs.Check.{marks_in}
use Rattle.isa.specs.Decode as decode
use Rattle.isa.specs.Decode.{Decoding, decode_at}
use Rattle.isa.specs.Displacement.{forward_of}
use Rattle.isa.specs.ControlFlow.{flow_of}
use Rattle.isa.specs.Refusals.{Numbered, done, refused}
use Rattle.isa.specs.declared.Instruction.{Instruction}
use Rattle.certificate.specs.Marks.{need_at}
use Rattle.certificate.specs.Successors.{placed}
use Rattle.certificate.specs.Rules.{Lawful, Rules}
use Rattle.certificate.proofs.Agreement.{agreement}
use Rattle.certificate.proofs.Links.{flow_rule_exactly}
use Rattle.certificate.proofs.Sound.{marked_in_rom}
use Rattle.maker.specs.Reach.{Reachable, UsesLevels}
use Rattle.maker.specs.Least.{NoneAccepted}
use Rattle.maker.proofs.Reached.{reached_kind, has_mark, reached, taken}

-- nothing is accepted where no certificate meets the rules
pub none_meets : {image : List ℕ} {wired : ℕ}
    → ((certificate : List ℕ) (levels : ℕ) → Rules image certificate wired levels → ⊥) → NoneAccepted image wired
none_meets {image} {wired} none certificate levels e =
    none certificate levels ((agreement image certificate wired levels).sound e)

module _ (image : List ℕ) (wired a kind : ℕ) (reach : Reachable image wired a kind) where
  -- a reachable address is lawful in every accepted certificate
  law : {certificate : List ℕ} {levels : ℕ} → Rules image certificate wired levels → Lawful image certificate a
  law {certificate} rules =
      rules.marked a (has_mark certificate a kind (reached rules a kind reach) (reached_kind a kind reach).0)

  pub outside : (4096 ≤ a) ⊎ (a + marks_in (length image) < 4096) → NoneAccepted image wired
  outside o = none_meets (λ certificate levels rules. contradicts certificate levels rules o)
    where
      contradicts : (certificate : List ℕ) (levels : ℕ) → Rules image certificate wired levels
          → (4096 ≤ a) ⊎ (a + marks_in (length image) < 4096) → ⊥
      contradicts certificate levels rules (inl h) =
          let k = reached rules a kind reach in
          omega (arith, (marked_in_rom certificate a (has_mark certificate a kind k (reached_kind a kind reach).0)).most)
      contradicts certificate levels rules (inr h) =
          let k = reached rules a kind reach in
          omega (
            arith,
            rules.certificate_length,
            (marked_in_rom certificate a (has_mark certificate a kind k (reached_kind a kind reach).0)).least,
          )

  pub too_deep : (need : ℕ) → UsesLevels image a kind need → 6 < need → NoneAccepted image wired
  unfolding need_at
  too_deep need takes h =
      none_meets
      (λ certificate levels rules. omega (arith, taken rules a kind need reach takes, (law rules).mark.need_most))

  pub two_kinds : (other : ℕ) → Reachable image wired a other → other ≢ kind → NoneAccepted image wired
  two_kinds other reach' n =
      none_meets (λ certificate levels rules. n (sym (reached rules a other reach') ∙ reached rules a kind reach))

  pub undecodable : (bank : ℕ) (r : Numbered) → decode_at (space_of image bank) a ≡ refused r → NoneAccepted image wired
  undecodable bank r d = none_meets (λ certificate levels rules. contradicts ((law rules).runs bank).decodes)
    where
      contradicts : {i : Decoding} → decode_at (space_of image bank) a ≡ done i → ⊥
      contradicts e = let z : ◌≡◌ {A = ℕ} 0 1 = cc in omega arith

  pub misplaced : (bank : ℕ) (i : Instruction) (bytes cycles : ℕ)
      → decode_at (space_of image bank) a ≡ done (decode.instruction i bytes cycles)
      → placed kind (flow_of i a) ≡ false → NoneAccepted image wired
  misplaced bank i bytes cycles d p = none_meets (λ certificate levels rules. contradicts rules)
    where
      contradicts : {certificate : List ℕ} {levels : ℕ} → Rules image certificate wired levels → ⊥
      contradicts {certificate} rules =
          let runs = (law rules).runs bank in
          let e = runs.decodes in
          let same : runs.instruction ≡ i = cc in
          let flow = flow_of runs.instruction a in
          let stands = ((flow_rule_exactly certificate a flow (forward_of a runs.bytes)).linked runs.rule).stands in
          false≢true (sym p ∙ (rw (reached rules a kind reach, same) at stands))
