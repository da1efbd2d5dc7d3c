-- The flag pair of a mode (document 01, "Modes, stack, sleep").
use Rattle.alu.specs.declared.Flags.{Flags}
use Rattle.control.specs.declared.Mode.{Mode}
use Rattle.control.specs.declared.Mode.TheVariants.{Reset, Normal, Interrupt, NmiOverNormal, NmiOverInterrupt}
use Rattle.machine.specs.declared.FlagPairs.{FlagPairs}

-- "Normal and interrupt each have their own Z and C; the other three share the NMI pair."
abbrev pub pair_of : FlagPairs → Mode → Flags
pair_of p Normal = p.normal
pair_of p Interrupt = p.interrupt
pair_of p Reset = p.nmi
pair_of p NmiOverNormal = p.nmi
pair_of p NmiOverInterrupt = p.nmi

abbrev pub with_nmi : FlagPairs → Flags → FlagPairs
with_nmi p f = record { normal = p.normal; interrupt = p.interrupt; nmi = f }

-- the pairs with another one in use in a mode
abbrev pub with_pair_of : FlagPairs → Mode → Flags → FlagPairs
with_pair_of p Normal f = record { normal = f; interrupt = p.interrupt; nmi = p.nmi }
with_pair_of p Interrupt f = record { normal = p.normal; interrupt = f; nmi = p.nmi }
with_pair_of p Reset f = with_nmi p f
with_pair_of p NmiOverNormal f = with_nmi p f
with_pair_of p NmiOverInterrupt f = with_nmi p f
