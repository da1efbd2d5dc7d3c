-- A record of document 01's P11, so that W-206's claims are no claims about nothing.
use Rattle.std.specs.Prelude.{ℕ, ◌≡◌, List, [], ◌∷◌}
use Rattle.isa.specs.Refusals.{plain, done, refused}
use Rattle.certificate.specs.Cases.{image11}
use Rattle.bench.specs.Session.{levels_in_use}
use Rattle.playback.specs.declared.Entry.{Entry}
use Rattle.playback.specs.declared.Entry.TheVariants.{Step, Store, Reset}
use Rattle.playback.specs.Play.{Playing, play_of}
use Rattle.playback.specs.Safety.{PlaysWithin}

-- three steps, a step with NMI's request, a host store to the ROM window, a reset
abbrev pub entries11 : List Entry
entries11 = Step 0x00 ∷ Step 0x00 ∷ Step 0x00 ∷ Step 0x01 ∷ Store 0x40 0x30 ∷ Reset ∷ []

-- version 1, the count 12, and the entries
abbrev pub recording11 : List ℕ
recording11 =
    0x01 ∷ 0x00 ∷ 0x0C ∷ 0x00 ∷ 0x00 ∷ 0x00 ∷ 0x00 ∷ 0x00 ∷ 0x00 ∷ 0x00 ∷ 0x01 ∷ 0x01 ∷ 0x40 ∷ 0x30 ∷ 0x02 ∷ []

-- proved by p11_played, proofs/Cases
pub record P11Played : Type 0 where
  -- "wired 01h: [..] `accepted 2`": it ends with no stop, and within two levels
  pub within : PlaysWithin image11 recording11 entries11 2
  -- the store, which is entry 4, ends it with 10. The four steps before it took 4, 2, 4 and 1 cycles, and left two
  -- levels in use: 890h was called, and NMI's request taken there
  pub playing : Playing
  pub plays : play_of image11 recording11 ≡ done playing
  pub entries : playing.entries ≡ 4
  pub cycles : playing.cycles ≡ 11
  pub ending : playing.ending ≡ refused (plain 10)
  pub levels : levels_in_use playing.machine ≡ 2
