-- What W-210 left as it was (document 02): "With one page all equals the 4K machine, but for that clearing. [..] Jobs
-- and the gauge stay unpaged".
use Rattle.machine.specs.OnePage.{MachineAsBefore}
use Rattle.certificate.specs.OnePage.{CheckAsBefore}
use Rattle.maker.specs.OnePage.{MakerAsBefore}
use Rattle.gauge.specs.OnePage.{GaugeAsBefore}
use Rattle.playback.specs.OnePage.{PlaybackAsBefore}

-- for images of 2,048 and of 4,096 bytes every operation answers what it answered, by its definition as it was
-- proved by one_page_is_four_k, proofs/OnePage
pub record OnePageIsFourK : Type 0 where
  -- decode, whatever the bank byte; step, with the origin of its operand; run; reading; reset, but for 0CAh
  pub machine : MachineAsBefore
  pub check : CheckAsBefore
  pub make : MakerAsBefore
  -- the gauge, of images of every length
  pub gauge : GaugeAsBefore
  pub play : PlaybackAsBefore
