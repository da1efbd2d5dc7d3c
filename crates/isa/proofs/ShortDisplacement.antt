-- The short displacement's formula, by a test at each of the 256 opcodes.
use Prim.Native.Nat.{ℕ, ◌<◌, suc-le-suc}
use lib.Dec.{leb→le}
use lib.IntN.{ℤ, pos, negsuc}
use lib.Signed.{◌≤ℤ◌, le_z, le_z_yes, mag}
use Rattle.isa.specs.Displacement.{short_displacement}
use Rattle.isa.specs.ShortDisplacement.{short_formula, ShortDisplacementFormula}
use Rattle.isa.proofs.Finite.{at, same_z}

pub short_displacement_formula : ShortDisplacementFormula
short_displacement_formula =
    record {
      equal = same_z short_formula short_displacement tt;
      at_least = λ k h. le_z_yes (at (λ j. le_z (negsuc 15) (short_displacement j)) 256 tt k h);
      at_most = λ k h. le_z_yes (at (λ j. le_z (short_displacement j) (pos 15)) 256 tt k h);
    }

-- from -16 to 15 is a magnitude below 16
magnitude : (d : ℤ) → negsuc 15 ≤ℤ d → d ≤ℤ pos 15 → mag d < 16
magnitude (pos n) l g = suc-le-suc (leb→le n 15 g.le)
magnitude (negsuc n) l g = suc-le-suc (leb→le n 15 l.le)

pub short_magnitude : (k : ℕ) → k < 256 → mag (short_displacement k) < 16
short_magnitude k h =
    magnitude (short_displacement k) (short_displacement_formula.at_least k h) (short_displacement_formula.at_most k h)
