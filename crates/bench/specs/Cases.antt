-- Demand 3 of an image and a certificate of document 01's bench cases, so that it is no claim about nothing.
use Rattle.std.specs.Prelude.{◌≡◌, [], ◌∷◌}
use Rattle.certificate.specs.Cases.{image11}
use Rattle.machine.specs.State.{fresh_of}
use Rattle.bench.specs.Calls.{run, leaves}
use Rattle.bench.specs.Session.{levels_in_use, Promised}

-- "wired 01h: [..] `accepted 2`": no step of it ever stops, and it never uses more than two levels
-- proved by p11_never_stops, proofs/Cases
abbrev pub P11NeverStops : Type 0
P11NeverStops = Promised image11 0x01 2

-- and two levels it does use: a fresh machine ends start-up, calls 890h, and takes NMI's request there
-- proved by p11_uses_two, proofs/Cases
abbrev pub P11UsesTwo : Type 0
P11UsesTwo = levels_in_use (leaves image11 (run (0x00 ∷ 0x00 ∷ 0x00 ∷ 0x01 ∷ []) 4) fresh_of) ≡ 2
