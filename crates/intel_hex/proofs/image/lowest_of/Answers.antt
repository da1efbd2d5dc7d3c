-- `image::lowest_of` meets its contract: where the first named cell is.
use Rattle.std.proofs.Common.{ℕ, ap, rules, tests}
use Rattle.std.specs.Prelude.{Option, is_some, unwrap_or}
use Rattle.std.proofs.lemmas.Iterator.{YieldsList-from_slice}
use Rattle.std.proofs.lemmas.Iterator.Search.{position_from_yields_List}
use Rattle.intel_hex.proofs.image.lowest_of.Goals as goal

pub returns-in-Some : goal.returns-in-Some
returns-in-Some c =
    ap (λ (o : Option ℕ). unwrap_or o 4096)
    (position_from_yields_List is_some _ _ _ c.in-Some.ensures.ran (YieldsList-from_slice c.args.memory.now cc)
    (λ x b q k. search (rules, tests)))

pub returns-in-None : goal.returns-in-None
returns-in-None c =
    ap (λ (o : Option ℕ). unwrap_or o 4096)
    (position_from_yields_List is_some _ _ _ c.in-None.ensures.ran (YieldsList-from_slice c.args.memory.now cc)
    (λ x b q k. search (rules, tests)))
