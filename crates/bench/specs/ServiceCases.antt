-- Services from the taking to their RETI, so that W-214 is no claim about nothing.
use Rattle.std.specs.Prelude.{ℕ, ◌≡◌, Bool, true, false, List, [], ◌∷◌, get_or, replicate}
use Rattle.std.proofs.lemmas.List.Edits.{sets}
use Rattle.isa.specs.declared.Source.{Source}
use Rattle.isa.specs.declared.Source.TheVariants.{Nmi, First}
use Rattle.control.specs.declared.Mode.{Mode}
use Rattle.control.specs.declared.Mode.TheVariants.{Normal, Interrupt}
use Rattle.control.specs.declared.Control.{Control}
use Rattle.machine.specs.State.{fresh_of}
use Rattle.certificate.specs.Check.{check_of, accepted}
use Rattle.certificate.specs.Cases.{blank, put, image11}
use Rattle.bench.specs.Calls.{Call, step, run, store, leaves, leaves_all, unrolled}
use Rattle.bench.specs.NoTrace.{InService, interrupted, NextStep, after_step, EndsService, Restored}

-- a list of calls on a fresh machine has a service, of this source, from the taking to its RETI; what control was
-- before it, and after it
pub record ServedIn (image : List ℕ) (calls : List Call) (source : Source) (from to : Control) : Type 0 where
  pub service : InService image fresh_of (unrolled calls)
  pub of_source : service.source ≡ source
  pub last : ℕ
  pub next : NextStep service last
  pub ends : EndsService service last
  pub taken_at : (interrupted service).control ≡ from
  pub left_at : (after_step service last).control ≡ to
  -- by the theorem
  pub restored : Restored service (after_step service last)

abbrev pub control_as : (pc levels : ℕ) → Mode → (asleep : Bool) → Control
control_as pc levels mode asleep = record { pc = pc; levels = levels; mode = mode; asleep = asleep }

-- P11: a fresh machine ends start-up and calls 890h, takes NMI's request there, and is back at 890h, on one level
abbrev pub P11Served : Type 0
P11Served =
    ServedIn image11 (run (0x00 ∷ 0x00 ∷ 0x00 ∷ 0x01 ∷ 0x00 ∷ []) 5 ∷ []) Nmi (control_as 0x890 1 Normal false)
    (control_as 0x890 1 Normal false)

-- LDI 0C8h,10h and RETI at 880h; STOP and JP 884h at 884h; LDI A,00h and RETI at 890h, for source 1, and at 8A0h, for
-- NMI; JP to each at the vectors
abbrev pub sleeper : List ℕ
sleeper =
    put 0x880 (0x0D ∷ 0xC8 ∷ 0x10 ∷ 0x4D ∷ 0x6D ∷ 0x49 ∷ 0x88 ∷ [])
    (put 0x890 (0x17 ∷ 0x00 ∷ 0x4D ∷ [])
    (put 0x8A0 (0x17 ∷ 0x00 ∷ 0x4D ∷ [])
    (put 0xFF6 (0x09 ∷ 0x89 ∷ [])
    (put 0xFFC (0x09 ∷ 0x8A ∷ 0x09 ∷ 0x88 ∷ []) blank))))

abbrev pub sleeper_certificate : List ℕ
sleeper_certificate =
    put 0x880 (0x10 ∷ 0x00 ∷ 0x00 ∷ 0x10 ∷ 0x20 ∷ 0x20 ∷ [])
    (put 0x890 (0x30 ∷ 0x00 ∷ 0x30 ∷ [])
    (put 0x8A0 (0x30 ∷ 0x00 ∷ 0x30 ∷ [])
    (put 0xFF6 (0x30 ∷ [])
    (put 0xFFC (0x30 ∷ 0x00 ∷ 0x10 ∷ []) blank))))

-- it falls asleep; source 1 wakes it; in the service there are host stores, one of them refused with 10, a step refused
-- with 11, and NMI's service as a whole
abbrev pub woken : List Call
woken =
    run (0x00 ∷ 0x00 ∷ 0x00 ∷ 0x00 ∷ 0x00 ∷ []) 5
    ∷ step 0x02
    ∷ store 0x84 0x05
    ∷ step 0x80
    ∷ store 0x40 0x05
    ∷ run (0x00 ∷ 0x01 ∷ 0x03 ∷ []) 6
    ∷ step 0x02
    ∷ []

-- the whole of source 1's service: asleep at 885h before it, awake at 885h after it
abbrev pub SourceWoke : Type 0
SourceWoke = ServedIn sleeper woken First (control_as 0x885 0 Normal true) (control_as 0x885 0 Normal false)

-- and within it the whole of NMI's: at 890h before it and after it, on one level
abbrev pub NmiWithin : Type 0
NmiWithin = ServedIn sleeper woken Nmi (control_as 0x890 1 Interrupt false) (control_as 0x890 1 Interrupt false)

-- two pages and the fixed half: RETI and JP 010h at 880h; at 010h JP 010h in page 0, and JP 884h in page 1; JP 884h at
-- 884h; LDI 0CAh,01h and RETI at 890h, for NMI; JP to 890h and 880h at the vectors
abbrev pub paged : List ℕ
paged =
    sets
    (sets
    (sets
    (sets
    (sets (replicate 6144 0x00) 0x010 (0x09 ∷ 0x01 ∷ [])) 0x810 (0x49 ∷ 0x88 ∷ []))
    0x1080 (0x4D ∷ 0x09 ∷ 0x01 ∷ 0x00 ∷ 0x49 ∷ 0x88 ∷ []))
    0x1090 (0x0D ∷ 0xCA ∷ 0x01 ∷ 0x4D ∷ []))
    0x17FC (0x09 ∷ 0x89 ∷ 0x09 ∷ 0x88 ∷ [])

abbrev pub paged_certificate : List ℕ
paged_certificate =
    sets
    (sets
    (sets
    (sets (replicate 4096 0x00) 0x010 (0x20 ∷ [])) 0x880 (0x10 ∷ 0x20 ∷ 0x00 ∷ 0x00 ∷ 0x20 ∷ []))
    0x890 (0x30 ∷ 0x00 ∷ 0x00 ∷ 0x30 ∷ []))
    0xFFC (0x30 ∷ 0x00 ∷ 0x10 ∷ [])

-- NMI's service of a paged image: at 010h before it and after it
abbrev pub PagedServed : Type 0
PagedServed =
    ServedIn paged (run (0x00 ∷ 0x00 ∷ 0x00 ∷ 0x01 ∷ []) 7 ∷ []) Nmi (control_as 0x010 0 Normal false)
    (control_as 0x010 0 Normal false)

-- proved by service_cases, proofs/ServiceCases
pub record ServiceCases : Type 0 where
  pub p11 : P11Served
  pub accepted_sleeper : check_of sleeper sleeper_certificate 0x03 ≡ accepted 2
  pub source_woke : SourceWoke
  pub nmi_within : NmiWithin
  -- the service has a flag pair of its own, which it does change: Z of it is clear before it, and set after it
  pub own_pair_before :
      (leaves sleeper (run (0x00 ∷ 0x00 ∷ 0x00 ∷ 0x00 ∷ 0x00 ∷ []) 5) fresh_of).flags.interrupt.zero ≡ false
  pub own_pair_after : (leaves_all sleeper woken fresh_of).flags.interrupt.zero ≡ true
  pub accepted_paged : check_of paged paged_certificate 0x01 ≡ accepted 1
  pub paged_served : PagedServed
  -- "data bytes may differ", and 0CAh is one: at 010h there stands page 0 before the service, and page 1 after it
  pub page_before : get_or (leaves paged (run (0x00 ∷ 0x00 ∷ 0x00 ∷ []) 3) fresh_of).bytes 0xCA 0 ≡ 0
  pub page_after : get_or (leaves paged (run (0x00 ∷ 0x00 ∷ 0x00 ∷ 0x01 ∷ []) 7) fresh_of).bytes 0xCA 0 ≡ 1
