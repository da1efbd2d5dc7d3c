-- Flows that are no CALL: for a match whose last arm takes them together.
use Prim.Native.Nat.{ℕ}
use mathlib.Core.Path.{◌≡◌, refl}
use mathlib.Core.List.{List, []}
use Rattle.isa.specs.declared.Flow.{Flow}
use Rattle.isa.specs.declared.Flow.TheVariants as flow
use Rattle.listing.specs.AddressLine.{target_text}

pub no_call : (certificate : List ℕ) (f : Flow) → ((target : ℕ) → f ≡ flow.Call target → ⊥) → target_text certificate f ≡ []
no_call certificate flow.Next h = refl
no_call certificate (flow.Jump target) h = refl
no_call certificate (flow.Branch condition target) h = refl
no_call certificate (flow.Call target) h = absurd (h target refl)
no_call certificate flow.Return h = refl
no_call certificate flow.ReturnFromInterrupt h = refl
no_call certificate flow.Sleep h = refl
