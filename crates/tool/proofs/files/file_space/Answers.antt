-- `files::file_space` meets its contract. The law speaks of any number, so that nothing counts to this one.
use Prim.Native.Nat.{ℕ}
use mathlib.Core.Path.{◌≡◌, sym}
use lib.ListN.{length, replicate, length-replicate}
use Rattle.tool.proofs.files.file_space.Goals as goal

counted : (n : ℕ) → n ≡ length {A = ℕ} (replicate n 0)
counted n = sym (length-replicate n 0)

pub returns : goal.returns
returns c = counted 1048582
