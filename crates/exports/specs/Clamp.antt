-- A number beyond its range becomes the nearest that is refused as it is.
use Rattle.std.specs.Prelude.{ℕ, cond, ltb}

-- a request or the wired byte: 255 sets bits that are no source's
abbrev pub clamped_byte : ℕ → ℕ
clamped_byte n = cond (ltb n 256) n 255

-- a program address: "3 address above FFFh"
abbrev pub clamped_address : ℕ → ℕ
clamped_address n = cond (ltb n 4096) n 4096
