-- `image::fill_image` meets its contract. The loop's invariant: the first i bytes are written.
use Rattle.std.proofs.Common.{◌≡◌, ℕ, ◌+◌, ◌<◌, get_or}
use Rattle.std.specs.Prelude.{None}
use Rattle.intel_hex.specs.Image.{value_of}
use Rattle.intel_hex.proofs.image.fill_image.Given as goal

abbrev pub invariant-loop-i : goal.invariant-loop-i
invariant-loop-i l = (k : ℕ) → k < l.i → get_or l.image k 0 ≡ value_of l.fill (get_or l.memory (l.first + k) None)
