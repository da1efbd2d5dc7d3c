-- A certificate is accepted exactly when all the rules of document 01 hold.
use Rattle.certificate.specs.Agreement.{Agreement}
use Rattle.certificate.proofs.Sound.{check_sound}
use Rattle.certificate.proofs.Complete.{check_complete}

pub agreement : Agreement
agreement image certificate wired levels =
    record {
      sound = check_sound image certificate wired levels;
      complete = check_complete image certificate wired levels;
    }
