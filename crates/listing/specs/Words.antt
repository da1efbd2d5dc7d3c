-- Words of a listing, in ASCII.
use Rattle.std.specs.Prelude.{ℕ, List, [], ◌∷◌}
use Prim.Native.Char.{code}
use Prim.Native.String.{String, [] as none, ◌∷◌ as ◌then◌}

-- the bytes of a quoted word: the codes of its letters
abbrev pub ascii : String → List ℕ
ascii none = []
ascii (letter then rest) = code letter ∷ ascii rest
