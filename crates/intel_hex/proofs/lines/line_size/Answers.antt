-- `lines::line_size` meets its contract: by where the line's end is found.
use Rattle.std.proofs.Common.{ℕ, ◌+◌, ◌∙◌, ap, length, rules, tests}
use Rattle.std.specs.Prelude.{Option}
use Rattle.std.specs.Option.{option_map_or}
use Rattle.std.proofs.lemmas.Iterator.{YieldsList-from_slice}
use Rattle.std.proofs.lemmas.Iterator.Search.{position_from_yields_List}
use Rattle.intel_hex.proofs.LineLaws.{is_end, size_by_end}
use Rattle.intel_hex.proofs.lines.line_size.Goals as goal

pub returns-in-Some : goal.returns-in-Some
returns-in-Some c =
    ap (λ (o : Option ℕ). option_map_or (λ at. at + 1) o (length c.args.text.now))
    (position_from_yields_List is_end _ _ _ c.in-Some.ensures.ran (YieldsList-from_slice c.args.text.now cc)
    (λ x b q k. search (rules, tests)))
    ∙ size_by_end c.args.text.now

pub returns-in-None : goal.returns-in-None
returns-in-None c =
    ap (λ (o : Option ℕ). option_map_or (λ at. at + 1) o (length c.args.text.now))
    (position_from_yields_List is_end _ _ _ c.in-None.ensures.ran (YieldsList-from_slice c.args.text.now cc)
    (λ x b q k. search (rules, tests)))
    ∙ size_by_end c.args.text.now
