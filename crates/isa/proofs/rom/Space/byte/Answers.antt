-- `rom::Space::byte` meets its contract: by the half in which the address lies.
use Rattle.std.proofs.Common.{◌≡◌, ◌∙◌, ℕ, List, Bor, refl, sym, length, slice_get}
use Rattle.std.proofs.lemmas.Option.{slice_get_past, slice_get_read}
use Rattle.std.specs.Prelude.{Option, Some, None}
use Rattle.std.specs.Option.{option_copied}
use Rattle.std.specs.Slice.{IsItemAt}
use Rattle.isa.proofs.Halves.{rom_get}
use Rattle.isa.proofs.rom.Space.byte.Goals as goal

-- the element that `get` lends, copied
copied : (xs : List ℕ) (i : ℕ) (r : Option (Bor ℕ)) → IsItemAt xs i r → option_copied r ≡ slice_get xs i
copied xs i None item = sym (slice_get_past xs i item.3)
copied xs i (Some x) item = sym (slice_get_read xs (length xs) i x.now refl item.3.0 item.1)

pub returns : goal.returns
returns c h low =
    c.copied.ensures ∙ copied _ _ c.get.result c.get.ensures.lookup
    ∙ rw c.half.ensures (rom_get _ _ h c.args.address low)
