-- For images of 2,048 and of 4,096 bytes every operation answers what it answered.
use Rattle.machine.proofs.OnePage.{machine_as_before}
use Rattle.certificate.proofs.OnePage.{check_as_before}
use Rattle.maker.proofs.OnePage.{maker_as_before}
use Rattle.gauge.proofs.OnePage.{gauge_as_before}
use Rattle.playback.proofs.OnePage.{playback_as_before}
use Rattle.exports.specs.OnePage.{OnePageIsFourK}

pub one_page_is_four_k : OnePageIsFourK
one_page_is_four_k = record {
  machine = machine_as_before;
  check = check_as_before;
  make = maker_as_before;
  gauge = gauge_as_before;
  play = playback_as_before;
}
