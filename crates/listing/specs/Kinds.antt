-- The kinds of marks in words.
use Rattle.std.specs.Prelude.{ℕ, cond, List, eqb}
use Rattle.certificate.specs.Marks.{kind_of}
use Rattle.listing.specs.Words.{ascii}

-- "1 start-up, 2 main, 3 service, 4 subroutine"; every other kind is that of a malformed mark
abbrev pub kind_word : (kind : ℕ) → List ℕ
kind_word kind =
    cond (eqb kind 1) (ascii "start-up")
    (cond (eqb kind 2) (ascii "main")
    (cond (eqb kind 3) (ascii "service")
    (cond (eqb kind 4) (ascii "subroutine") (ascii "malformed"))))

-- "An address is marked when its mark isn't 00h."
unfoldable pub kind_name : (mark : ℕ) → List ℕ
kind_name mark = cond (eqb mark 0x00) (ascii "unmarked") (kind_word (kind_of mark))
