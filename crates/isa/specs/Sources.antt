-- Interrupt sources (document 01, "Modes, stack, sleep").
use Rattle.std.specs.Prelude.{ℕ, ◌/◌, ◌%◌, ◌^◌, Bool, eqb, ltb}
use Rattle.isa.specs.declared.Source.{Source}
use Rattle.isa.specs.declared.Source.TheVariants.{Nmi, First, Second, Third, Fourth}

-- "A request byte has bits 0 to 4 for NMI and sources 1 to 4."
abbrev pub request_bit : Source → ℕ
request_bit Nmi = 0
request_bit First = 1
request_bit Second = 2
request_bit Third = 3
request_bit Fourth = 4

-- the byte has the source's bit
abbrev pub is_named : ℕ → Source → Bool
is_named byte source = eqb (byte / 2 ^ request_bit source % 2) 1

-- "11 (bit 5, 6 or 7 set in a request byte)": the byte has none of them
abbrev pub names_only_sources : ℕ → Bool
names_only_sources byte = ltb byte 32

-- "Vectors: FFCh, FF6h, FF4h, FF2h, FF0h."
abbrev pub vector_of : Source → ℕ
vector_of Nmi = 0xFFC
vector_of First = 0xFF6
vector_of Second = 0xFF4
vector_of Third = 0xFF2
vector_of Fourth = 0xFF0

-- "Reset sets PC to FFEh"
abbrev pub reset_vector : ℕ
reset_vector = 0xFFE
