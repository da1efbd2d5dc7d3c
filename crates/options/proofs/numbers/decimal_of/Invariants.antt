-- `numbers::decimal_of` meets its contract. The loop's invariant: the value so far, and the letters from here on, decide.
use Rattle.std.proofs.Common.{◌≡◌, ◌≤◌, drop}
use Rattle.options.specs.Numbers.{parsed_after}
use Rattle.options.proofs.numbers.decimal_of.Given as goal

abbrev pub invariant-loop-letter : goal.invariant-loop-letter
invariant-loop-letter l =
    (l.value ≤ 65535) × (parsed_after l.value (drop l.letter-index l.text) ≡ parsed_after 0 l.text)
