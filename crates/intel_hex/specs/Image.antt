-- The image made of what was named.
use Rattle.std.specs.Prelude.{ℕ, zero, suc, List, [], ◌∷◌, get_or, Option, None, is_some, unwrap_or, position}
use Rattle.intel_hex.specs.Place.{Memory}

-- the byte of a cell: every one that the file does not name is `fill`
abbrev pub value_of : (fill : ℕ) → (cell : Option ℕ) → ℕ
value_of fill cell = unwrap_or cell fill

-- the bytes of so many addresses, from an address on
unfoldable pub filled : (fill : ℕ) → (memory : Memory) → (address size : ℕ) → List ℕ
filled fill memory address zero = []
filled fill memory address (suc size) =
    value_of fill (get_or memory address None) ∷ filled fill memory (suc address) size

-- the lowest address that is named, 4096 if none is
abbrev pub lowest_in : (memory : Memory) → ℕ
lowest_in memory = unwrap_or (position is_some memory) 4096
