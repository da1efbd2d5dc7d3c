-- The certificate's marks (document 01, "The certificate").
use Rattle.std.specs.Prelude.{ℕ, ◌+◌, ◌-◌, ◌/◌, ◌%◌, ◌≤◌, cond, ◌&&◌, ◌≢◌, List, leb, ltb, length, get_or, Option, Some, None}
use Rattle.certificate.specs.declared.marks.Kind.{Kind}
use Rattle.certificate.specs.declared.marks.Kind.TheVariants.{StartUp, Main, Service, Subroutine}

-- "lowest address first": that of the first mark, 800h or 000h
abbrev pub lowest : (certificate : List ℕ) → ℕ
lowest certificate = 4096 - length certificate

-- "One mark for each ROM byte, lowest address first.": the last one is that of FFFh, and outside ROM there is none
unfoldable pub mark_at : (certificate : List ℕ) → (address : ℕ) → ℕ
mark_at certificate a =
    cond (ltb a 4096 && leb 4096 (a + length certificate)) (get_or certificate (a + length certificate - 4096) 0x00) 0x00

-- "An address is marked when its mark isn't 00h."
abbrev pub Marked : (certificate : List ℕ) → (address : ℕ) → Type 0
Marked certificate a = mark_at certificate a ≢ 0x00

-- "High digit, the kind: 0 unmarked (low digit 0 too), 1 start-up, 2 main, 3 service, 4 subroutine. Low digit, the
-- need: 0 to 6 further levels."
pub record WellFormed (mark : ℕ) : Type 0 where
  pub kind_least : 1 ≤ mark / 16
  pub kind_most : mark / 16 ≤ 4
  pub need_most : mark % 16 ≤ 6

-- "High digit, the kind", and 0 for a mark that is none or malformed: "outside ROM, unmarked or of wrong kind,
-- malformed marks counting so" is then one test, that the kind is another
abbrev pub kind_of : (mark : ℕ) → ℕ
kind_of mark = cond (leb (mark / 16) 4 && leb (mark % 16) 6) (mark / 16) 0

-- the program's kind by its number: "1 start-up, 2 main, 3 service, 4 subroutine", and 0 for none
abbrev pub kind_number : Option Kind → ℕ
kind_number None = 0
kind_number (Some StartUp) = 1
kind_number (Some Main) = 2
kind_number (Some Service) = 3
kind_number (Some Subroutine) = 4

-- "Low digit, the need"
abbrev pub need_of : (mark : ℕ) → ℕ
need_of mark = mark % 16

-- the kind of an address
unfoldable pub kind_at : (certificate : List ℕ) → (address : ℕ) → ℕ
kind_at certificate a = kind_of (mark_at certificate a)

-- the need of an address
unfoldable pub need_at : (certificate : List ℕ) → (address : ℕ) → ℕ
need_at certificate a = need_of (mark_at certificate a)
