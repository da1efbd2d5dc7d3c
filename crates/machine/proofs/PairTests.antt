-- The flag pair of a mode, put in the place of another.
use mathlib.Core.Path.{◌≡◌, refl}
use Rattle.alu.specs.declared.Flags.{Flags}
use Rattle.control.specs.declared.Mode.{Mode}
use Rattle.control.specs.declared.Mode.TheVariants.{Reset, Normal, Interrupt, NmiOverNormal, NmiOverInterrupt}
use Rattle.machine.specs.declared.FlagPairs.{FlagPairs}
use Rattle.machine.specs.Pairs.{pair_of, with_pair_of}

-- the pair of a mode: put in, it is the one in use; put in twice, the last counts; put back, nothing changes
pub pair_put : (p : FlagPairs) (mode : Mode) (f : Flags) → pair_of (with_pair_of p mode f) mode ≡ f
pair_put p Normal f = refl
pair_put p Interrupt f = refl
pair_put p Reset f = refl
pair_put p NmiOverNormal f = refl
pair_put p NmiOverInterrupt f = refl

pub put_twice :
    (p : FlagPairs) (mode : Mode) (f g : Flags) → with_pair_of (with_pair_of p mode f) mode g ≡ with_pair_of p mode g
put_twice p Normal f g = refl
put_twice p Interrupt f g = refl
put_twice p Reset f g = refl
put_twice p NmiOverNormal f g = refl
put_twice p NmiOverInterrupt f g = refl

pub put_back : (p : FlagPairs) (mode : Mode) → with_pair_of p mode (pair_of p mode) ≡ p
put_back p Normal = refl
put_back p Interrupt = refl
put_back p Reset = refl
put_back p NmiOverNormal = refl
put_back p NmiOverInterrupt = refl
