-- Which sources are wired is never assumed.
use Prim.Native.Nat.{ℕ}
use mathlib.Core.Path.{◌≡◌, refl}
use mathlib.Core.Bool.{Bool, true, false, cond}
use mathlib.Core.List.{List, [], ◌∷◌}
use Rattle.std.specs.Prelude.{Option, None, Some, Result, Ok, Err}
use Rattle.isa.specs.Refusals.{unless}
use Rattle.options.specs.declared.command_line.Usage.TheVariants as usage
use Rattle.options.specs.declared.by_number.Usage.TheVariants as wrong
use Rattle.options.specs.declared.places.Place.{Place}
use Rattle.options.specs.declared.places.Place.TheVariants as named
use Rattle.options.specs.Places as place
use Rattle.options.specs.ByNumber as number
use Rattle.options.specs.CommandLine as line

-- of what is tried in order only the last can be fine
tried :
    {U : Type 0} (no_value no_image no_wired : U) (help awaited image wired : Bool) (more : Result (Unit {0}) U)
    → unless help (Ok tt)
    (unless awaited (Err no_value) (cond image (Err no_image) (cond wired (Err no_wired) more))) ≡ Ok tt
    → help ≡ true → wired ≡ false
tried v i w help awaited image false more e h = refl
tried v i w false awaited image true more e h = absurd (cc)
tried v i w true false image true more e h = absurd (cc)
tried v i w true true true true more e h = absurd (cc)
tried v i w true true false true more e h = absurd (cc)

module _ (help image wired : Bool) (more : line.Verdict) where
  -- .. of the places by name
  tried_by_name :
      (awaited : Option Place)
      → unless help line.fine
      (line.lack_by awaited
      (cond image (Err (usage.Missing named.Image)) (cond wired (Err (usage.Missing named.Wired)) more))) ≡ line.fine
      → help ≡ true → wired ≡ false
  tried_by_name None e h =
      tried usage.NoCommand (usage.Missing named.Image) (usage.Missing named.Wired) help true image wired more e h
  tried_by_name (Some p) e h =
      tried (usage.NoValue p) (usage.Missing named.Image) (usage.Missing named.Wired) help false image wired more e h

pub wired_is_never_assumed : line.WiredIsNeverAssumed
unfolding line.lack_of
wired_is_never_assumed =
    record {
      check = λ places e h.
          tried_by_name (place.is_open places named.Help) (place.is_open places named.Image)
          (place.is_open places named.Wired) line.fine places.awaited e h;
      certify = λ places e h.
          tried_by_name (place.is_open places named.Help) (place.is_open places named.Image)
          (place.is_open places named.Wired) (line.missing_of places (named.Output ∷ [])) places.awaited e h;
    }

-- .. of the places by number
by_number :
    (places : List ℕ) (more : number.Verdict)
    → unless (number.is_open places place.help) number.fine
    (unless (number.is_open places place.awaited) (Err (wrong.NoValue (number.argument_of places place.awaited)))
    (cond (number.is_open places place.image) (Err (wrong.Missing place.image))
    (cond (number.is_open places place.wired) (Err (wrong.Missing place.wired)) more))) ≡ number.fine
    → number.is_open places place.help ≡ true → number.is_open places place.wired ≡ false
by_number places more e h =
    tried (wrong.NoValue (number.argument_of places place.awaited)) (wrong.Missing place.image)
    (wrong.Missing place.wired) (number.is_open places place.help) (number.is_open places place.awaited)
    (number.is_open places place.image) (number.is_open places place.wired) more e h

pub wired_is_never_assumed_by_number : number.WiredIsNeverAssumed
unfolding number.lack_of
wired_is_never_assumed_by_number =
    record {
      check = λ places e h. by_number places number.fine e h;
      certify = λ places e h. by_number places (number.missing_of places (place.output ∷ [])) e h;
    }
