-- `address_line::need_text` meets its contract.
use mathlib.Core.Path.{◌≡◌, refl}
use mathlib.Core.Bool.{false}
use lib.Dec.{eqb}
use Rattle.std.specs.Prelude.{Some}
use Rattle.certificate.specs.Marks.{kind_number}
use Rattle.certificate.specs.declared.marks.Kind.{Kind}
use Rattle.certificate.specs.declared.marks.Kind.TheVariants.{StartUp, Main, Service, Subroutine}
use Rattle.listing.specs.AddressLine.{need_text}
use Rattle.text_line.proofs.LineLaws.{both}
use Rattle.listing.proofs.address_line.need_text.Goals as goal

some_kind : (k : Kind) → eqb (kind_number (Some k)) 0 ≡ false
some_kind StartUp = refl
some_kind Main = refl
some_kind Service = refl
some_kind Subroutine = refl

pub returns : goal.returns
unfolding need_text
returns c =
    rw (← c.kind_of.ensures, c.in-Some.is, some_kind _, ← c.need_of-need.ensures)
    (both (both c.word-2.ensures c.decimal-needs.ensures) c.call_text.ensures)
