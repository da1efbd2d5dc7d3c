-- `by_number::takes` meets its contract: a number that is no place's is no option's.
use Prim.Native.Nat.{ℕ}
use mathlib.Core.Path.{◌≡◌, refl, sym}
use mathlib.Core.Bool.{false}
use lib.Dec.{eqb}
use borrow.Author.Tests.{ne_eqb}
use Rattle.std.specs.Prelude.{Option, None, Some}
use Rattle.options.specs.declared.Command.{Command}
use Rattle.options.specs.declared.Command.TheVariants as command
use Rattle.options.specs.declared.places.Place.{Place}
use Rattle.options.specs.declared.places.Place.TheVariants as place
use Rattle.options.specs.Places.{number_of}
use Rattle.options.specs.ByNumber.{common_options, has_option, is_among, options_of}
use Rattle.options.proofs.by_number.takes.Goals as goal

module _ (n : ℕ) (other : (p : Place) → eqb n (number_of p) ≡ false) where
  no_common : is_among n common_options ≡ false
  no_common = simp (other place.Rom, other place.Fill, other place.Raw, other place.Quiet, other place.Help)

  no_more : (c : Option Command) → is_among n (options_of c) ≡ false
  no_more None = refl
  no_more (Some command.Check) = simp (other place.Wired, other place.Marks)
  no_more (Some command.Certify) = simp (other place.Wired, other place.Output)
  no_more (Some command.List) = simp (other place.Wired, other place.Marks)
  no_more (Some command.Trace) = simp (other place.Steps, other place.Request)
  no_more (Some command.Size) = simp (other place.Marks, other place.Count)
  no_more (Some command.Play) = refl
  no_more (Some command.Help) = refl
  no_more (Some command.Version) = refl

  no_option : (c : Option Command) → has_option c n ≡ false
  unfolding has_option
  no_option c = rw (no_common, no_more c)

pub returns-in-None : goal.returns-in-None
returns-in-None c =
    let n = c.args.place in
    let other : (p : Place) → number_of p ≡ n → ⊥ = λ p e. absurd (let f : None ≡ Some p = c.in-None.ensures.whole p e in cc) in
    sym (no_option n (λ p. ne_eqb n (number_of p) (λ e. other p (sym e))) c.args.command)
