-- Words are the same exactly where they are equal.
use Rattle.std.proofs.Common.{refl}
use Rattle.std.proofs.lemmas.Slice.Eq.{bytes_eq-Decides}
use Rattle.options.specs.Words.{SameIsEqual}

pub same_is_equal : SameIsEqual
same_is_equal =
    record {
      equal = λ a b. (bytes_eq-Decides a b).0;
      itself = λ a. (bytes_eq-Decides a a).1 refl;
    }
