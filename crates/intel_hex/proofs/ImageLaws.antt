-- Laws of the image that is made of a memory.
use Prim.Native.Nat.{ℕ, zero, suc, ◌+◌, ◌<◌}
use native.Mathlib.Omega.{arith}
use native.Mathlib.Nat.{add-zero, le_of_suc-le-suc, not-suc-le-zero}
use mathlib.Core.Path.{◌≡◌, refl, ap}
use lib.ListN.{length, get_or}
use Rattle.std.specs.Prelude.{None}
use Rattle.intel_hex.specs.Image.{filled, value_of}
use Rattle.intel_hex.specs.Place.{Memory}

-- the cells as bytes
pub filled_length : (fill : ℕ) (memory : Memory) (address n : ℕ) → length (filled fill memory address n) ≡ n
unfolding filled
filled_length fill memory address zero = refl
filled_length fill memory address (suc n) = ap suc (filled_length fill memory (suc address) n)

pub filled_at :
    (fill : ℕ) (memory : Memory) (address n i : ℕ) → i < n
    → get_or (filled fill memory address n) i 0 ≡ value_of fill (get_or memory (address + i) None)
unfolding filled
filled_at fill memory address zero i h = absurd (not-suc-le-zero h)
filled_at fill memory address (suc n) zero h = rw (add-zero address)
filled_at fill memory address (suc n) (suc i) h =
    let one : address + suc i ≡ suc address + i = omega arith in
    rw one (filled_at fill memory (suc address) n i (le_of_suc-le-suc h))
