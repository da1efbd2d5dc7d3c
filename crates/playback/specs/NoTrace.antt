-- The service of a request leaves no trace in the playing of a record either (document 02, W-214), since a playing is a
-- list of calls without runs. The claim is `PlayedNoTrace`.
use Rattle.std.specs.Prelude.{ℕ, ◌≡◌, List, take}
use Rattle.isa.specs.Refusals.{done}
use Rattle.machine.specs.State.{fresh_of}
use Rattle.certificate.specs.Check.{check_of, accepted}
use Rattle.bench.specs.Calls.{Call, leaves_all, AllSingle, AllAskOnly}
use Rattle.bench.specs.NoTrace.{InService, LeavesNoTrace, LevelsTell}
use Rattle.playback.specs.declared.Entry.{Entry}
use Rattle.playback.specs.Record.{entries_in}
use Rattle.playback.specs.Play.{calls_of, Playing, play_of}

-- the keys that a playing has pressed, but for the one that ended it (`KeysPlayed`, field `calls`)
abbrev pub pressed_in : Playing → List Entry → List Call
pressed_in p entries = calls_of (take p.entries entries)

-- a record with these entries is played
pub record PlaysWithoutTrace (image recording : List ℕ) (entries : List Entry) : Type 0 where
  pub playing : Playing
  pub plays : play_of image recording ≡ done playing
  -- it is a list of calls without runs on a fresh machine, which leaves the machine that is answered
  pub no_runs : AllSingle (pressed_in playing entries)
  pub machine : playing.machine ≡ leaves_all image (pressed_in playing entries) fresh_of
  -- at every moment of every service in it
  pub no_trace : (s : InService image fresh_of (pressed_in playing entries)) → LeavesNoTrace s
  pub levels_tell : (s : InService image fresh_of (pressed_in playing entries)) → LevelsTell s

-- of an accepted image and every record whose requests ask for wired sources only
-- proved by played_no_trace, proofs/NoTrace
abbrev pub PlayedNoTrace : Type 0
PlayedNoTrace =
    (image certificate : List ℕ) (wired levels : ℕ) → check_of image certificate wired ≡ accepted levels
    → (recording : List ℕ) (entries : List Entry) → entries_in recording ≡ done entries →
    AllAskOnly wired (calls_of entries)
    → PlaysWithoutTrace image recording entries
