-- W-214 for records: `PlayedNoTrace`.
use Prim.Native.Nat.{ℕ, zero, suc}
use mathlib.Core.List.{List, [], ◌∷◌}
use lib.ListN.{take, replicate}
use Rattle.machine.specs.State.{machine_of, reset_control, cleared_pairs, fresh_of}
use Rattle.certificate.proofs.Agreement.{agreement}
use Rattle.bench.specs.Calls.{AllSingle, AllAskOnly}
use Rattle.bench.proofs.Invariant.{reset_invariant}
use Rattle.bench.proofs.NoTrace.{leaves_no_trace, levels_tell}
use Rattle.playback.specs.declared.Entry.{Entry}
use Rattle.playback.specs.declared.Entry.TheVariants.{Step, Store, Reset}
use Rattle.playback.specs.Play.{calls_of, Playing, play_from, play_of}
use Rattle.playback.specs.NoTrace.{pressed_in, PlayedNoTrace}
use Rattle.playback.proofs.Keys.{keys_played}

-- no entry is a run
single : (entries : List Entry) → AllSingle (calls_of entries)
single [] = tt
single (Step request ∷ entries) = single entries
single (Store address value ∷ entries) = single entries
single (Reset ∷ entries) = single entries

-- among the first entries only wired sources ask
asks_first : (wired k : ℕ) (entries : List Entry) → AllAskOnly wired (calls_of entries)
    → AllAskOnly wired (calls_of (take k entries))
asks_first wired zero entries asks = tt
asks_first wired (suc k) [] asks = tt
asks_first wired (suc k) (e ∷ entries) asks = (asks.0, asks_first wired k entries asks.1)

pub played_no_trace : PlayedNoTrace
unfolding play_of fresh_of
played_no_trace image certificate wired levels accepts recording entries reads asks =
    let ok = (agreement image certificate wired levels).sound accepts in
    let g =
    reset_invariant image certificate wired levels ok
    (machine_of reset_control (replicate 6 0) cleared_pairs (replicate 256 0)) in
    let played : Playing = play_from image 0 0 fresh_of entries in
    let pressed = asks_first wired played.entries entries asks in
    record {
      playing = played;
      plays = rw (ok.image_length, reads);
      no_runs = single (take played.entries entries);
      machine = keys_played.calls image fresh_of entries;
      no_trace = λ s.
          leaves_no_trace image certificate wired levels ok fresh_of (pressed_in played entries) g pressed s;
      levels_tell = λ s.
          levels_tell image certificate wired levels ok fresh_of (pressed_in played entries) g pressed s;
    }
