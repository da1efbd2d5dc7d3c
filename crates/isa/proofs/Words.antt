-- Predecoded instructions: the bytes of a number, and a displacement and a target back from their bytes.
use Prim.Native.Nat.{ℕ, zero, suc, ◌+◌, ◌-◌, ◌<◌, ◌≤◌}
use mathlib.Core.Path.{◌≡◌, refl, sym, ap, ◌∙◌, subst}
use mathlib.Core.Bool.{Bool, true, false}
use mathlib.Core.List.{List, [], ◌∷◌}
use native.Mathlib.Omega.{arith}
use lib.Dec.{ltb}
use borrow.Author.Tests.{ltb-true, ltb-false}
use lib.ListN.{get_or-eq_default}
use types.Run.{OneOf, miss}
use denote.Enum.Declared.{tag_of}
use Rattle.isa.specs.declared.Instruction.{Instruction}
use Rattle.isa.specs.declared.Instruction.TheVariants as I
use Rattle.isa.specs.declared.Flow.{Flow}
use Rattle.isa.specs.declared.Flow.TheVariants as flow
use Rattle.isa.specs.ControlFlow.{flow_of}
use Rattle.isa.specs.Predecoded.{by_code, instruction_by_code}
use Rattle.isa.specs.contracts.Instruction.{the_type}
use Rattle.isa.proofs.Column.{pick}

-- a number that is none of the n from some number on, or below it
abbrev Others : (k from n : ℕ) → Type 0
Others k from zero = Unit
Others k from (suc n) = Others k from n × (k ≡ n + from → ⊥)

pub past : (k from n : ℕ) → from ≤ k → Others k from n → n + from ≤ k
past k from zero h o = omega arith
past k from (suc n) h o =
    let least : n + from ≤ k = past k from n h o.0 in
    let other : k ≡ n + from → ⊥ = o.1 in
    omega arith

-- whether a flow is to the next address
abbrev pub is_next : Flow → Bool
is_next flow.Next = true
is_next (flow.Jump to) = false
is_next (flow.Branch condition to) = false
is_next (flow.Call to) = false
is_next flow.Return = false
is_next flow.ReturnFromInterrupt = false
is_next flow.Sleep = false

-- the first 12 codes are those whose instruction may go elsewhere
module _ (a b c at : ℕ) where
  pub below : (code : ℕ) → code < 12 → is_next (flow_of (instruction_by_code code a b c) at) ≡ false
  unfolding instruction_by_code flow_of
  below = pick (λ k. is_next (flow_of (instruction_by_code k a b c) at) ≡ false) 12 (
    refl,
    (refl, (refl, (refl, (refl, (refl, (refl, (refl, (refl, (refl, (refl, (refl, tt))))))))))),
  )

  abbrev GoesOn : ℕ → Type 0
  GoesOn code = flow_of (instruction_by_code code a b c) at ≡ flow.Next

  from_12 : (k : ℕ) → k < 41 → GoesOn (k + 12)
  unfolding instruction_by_code flow_of
  from_12 = pick (λ k. GoesOn (k + 12)) 41 (
    refl,
    (
      refl,
      (
        refl,
        (
          refl,
          (
            refl,
            (
              refl,
              (
                refl,
                (
                  refl,
                  (
                    refl,
                    (
                      refl,
                      (
                        refl,
                        (
                          refl,
                          (
                            refl,
                            (
                              refl,
                              (
                                refl,
                                (
                                  refl,
                                  (
                                    refl,
                                    (
                                      refl,
                                      (
                                        refl,
                                        (
                                          refl,
                                          (
                                            refl,
                                            (
                                              refl,
                                              (
                                                refl,
                                                (
                                                  refl,
                                                  (
                                                    refl,
                                                    (
                                                      refl,
                                                      (
                                                        refl,
                                                        (
                                                          refl,
                                                          (
                                                            refl,
                                                            (
                                                              refl,
                                                              (
                                                                refl,
                                                                (
                                                                  refl,
                                                                  (
                                                                    refl,
                                                                    (
                                                                      refl,
                                                                      (
                                                                        refl,
                                                                        (
                                                                          refl,
                                                                          (
                                                                            refl,
                                                                            (
                                                                              refl,
                                                                              (
                                                                                refl,
                                                                                (
                                                                                  refl,
                                                                                  (
                                                                                    refl,
                                                                                    tt,
                                                                                  ),
                                                                                ),
                                                                              ),
                                                                            ),
                                                                          ),
                                                                        ),
                                                                      ),
                                                                    ),
                                                                  ),
                                                                ),
                                                              ),
                                                            ),
                                                          ),
                                                        ),
                                                      ),
                                                    ),
                                                  ),
                                                ),
                                              ),
                                            ),
                                          ),
                                        ),
                                      ),
                                    ),
                                  ),
                                ),
                              ),
                            ),
                          ),
                        ),
                      ),
                    ),
                  ),
                ),
              ),
            ),
          ),
        ),
      ),
    ),
  )

  past_list : (code : ℕ) → 53 ≤ code → GoesOn code
  unfolding instruction_by_code flow_of
  past_list code h = rw (get_or-eq_default (by_code a b c) I.Rlc h)

  pub above : (code : ℕ) → 12 ≤ code → GoesOn code
  above code h = go (ltb code 53) refl
    where
      go : (t : Bool) → ltb code 53 ≡ t → GoesOn code
      go true e =
          let inside : code - 12 < 41 = omega (arith, ltb-true code 53 e) in
          let whole : code - 12 + 12 ≡ code = omega arith in
          subst GoesOn whole (from_12 (code - 12) inside)
      go false e = past_list code (ltb-false code 53 e)

-- the tags of the instructions that may go elsewhere: for a match whose last arm takes them together
abbrev pub elsewheres : List ℕ
elsewheres = 0 ∷ 1 ∷ 2 ∷ 3 ∷ 4 ∷ 5 ∷ 6 ∷ 7 ∷ 26 ∷ 27 ∷ 28 ∷ 29 ∷ []

pub elsewhere : (i : Instruction) (a : ℕ) → OneOf elsewheres (tag_of the_type i) → is_next (flow_of i a) ≡ false
unfolding flow_of
elsewhere (I.Jrnz d) a h = refl
elsewhere (I.Jrnc d) a h = refl
elsewhere (I.Jrz d) a h = refl
elsewhere (I.Jrc d) a h = refl
elsewhere (I.Call t) a h = refl
elsewhere (I.Jp t) a h = refl
elsewhere (I.Jrr n x d) a h = refl
elsewhere (I.Jrs n x d) a h = refl
elsewhere (I.Res n x) a h = absurd (miss elsewheres 8 tt h)
elsewhere (I.Set n x) a h = absurd (miss elsewheres 9 tt h)
elsewhere (I.LoadA o) a h = absurd (miss elsewheres 10 tt h)
elsewhere (I.StoreA o) a h = absurd (miss elsewheres 11 tt h)
elsewhere (I.LoadAImmediate v) a h = absurd (miss elsewheres 12 tt h)
elsewhere (I.LoadImmediate x v) a h = absurd (miss elsewheres 13 tt h)
elsewhere (I.Inc o) a h = absurd (miss elsewheres 14 tt h)
elsewhere (I.Dec o) a h = absurd (miss elsewheres 15 tt h)
elsewhere (I.Add o) a h = absurd (miss elsewheres 16 tt h)
elsewhere (I.AddImmediate v) a h = absurd (miss elsewheres 17 tt h)
elsewhere (I.Sub o) a h = absurd (miss elsewheres 18 tt h)
elsewhere (I.SubImmediate v) a h = absurd (miss elsewheres 19 tt h)
elsewhere (I.And o) a h = absurd (miss elsewheres 20 tt h)
elsewhere (I.AndImmediate v) a h = absurd (miss elsewheres 21 tt h)
elsewhere (I.Cp o) a h = absurd (miss elsewheres 22 tt h)
elsewhere (I.CpImmediate v) a h = absurd (miss elsewheres 23 tt h)
elsewhere I.Com a h = absurd (miss elsewheres 24 tt h)
elsewhere I.Rlc a h = absurd (miss elsewheres 25 tt h)
elsewhere I.Ret a h = refl
elsewhere I.Reti a h = refl
elsewhere I.Stop a h = refl
elsewhere I.Wait a h = refl

-- a flow is not both
pub never : {P : Type 0} {f : Flow} → f ≡ flow.Next → is_next f ≡ false → P
never e n =
    let z : ◌≡◌ {A = Bool} true false = sym (ap is_next e) ∙ n in
    let y : ◌≡◌ {A = ℕ} 0 1 = cc in
    absurd (omega arith)
