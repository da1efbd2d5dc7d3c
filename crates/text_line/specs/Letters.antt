-- A line's letters are its bytes, then zeros.
use Rattle.std.proofs.Common.{ℕ, ◌-◌, ◌≡◌, List, ◌++◌, length, take, arith}
use Rattle.std.proofs.lemmas.List.{length-take-le, take-append-drop}
use Rattle.text_line.specs.Line.{Within, zeros}

pub bytes_counted : {most count : ℕ} {letters : List ℕ} → Within most count letters → length (take count letters) ≡ count
bytes_counted {most} {count} {letters} w = length-take-le count letters (omega (arith, w.room, w.array))

pub zeros_after :
    {most count : ℕ} {letters : List ℕ} → Within most count letters → take count letters ++ zeros (most - count) ≡ letters
zeros_after {most} {count} {letters} w = rw (← w.rest) (take-append-drop count letters)
