-- A test that holds at every index below a number.
use Rattle.std.specs.Prelude.{ℕ, zero, suc, Bool, true, ◌&&◌}

unfoldable pub every : (ℕ → Bool) → (n : ℕ) → Bool
every test zero = true
every test (suc n) = test n && every test n
