-- A pass of the check over marks with one page in place.
use Rattle.std.specs.Prelude.{ℕ, zero, suc, ◌+◌, ◌<◌, ◌≡◌, List, ltb, get_or}
use Rattle.isa.specs.Decode.{decode_at}
use Rattle.isa.specs.Refusals.{located, unless}
use Rattle.certificate.specs.Findings.{Found, passes, fault}
use Rattle.certificate.specs.Marks.{kind_of, lowest}
use Rattle.certificate.specs.Check.{decoded_found}

-- the mark at an address, in program space as it stands
unfoldable pub page_found : (program certificate : List ℕ) → (a mark : ℕ) → Found
page_found program certificate a zero = passes
page_found program certificate a (suc m) =
    unless (ltb 0 (kind_of (suc m))) (fault (located 14 a)) (decoded_found certificate a (suc m) (decode_at program a))

-- a pass over the first marks: none before `end` is at fault; where the pass found nothing it went over all of them,
-- and where it found a fault that is the mark at `end`
abbrev pub Ends : (program certificate : List ℕ) → (most : ℕ) → Found → (end : ℕ) → Type 0
Ends program certificate most passes end = end ≡ most
Ends program certificate most (fault r) end =
    (end < most) × (page_found program certificate (lowest certificate + end) (get_or certificate end 0) ≡ fault r)

pub record Searched (program certificate : List ℕ) (most : ℕ) (f : Found) (end : ℕ) : Type 0 where
  pub before :
      (i : ℕ) → i < end → page_found program certificate (lowest certificate + i) (get_or certificate i 0) ≡ passes
  pub ends : Ends program certificate most f end
