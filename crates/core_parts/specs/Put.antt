-- The parts of a core that a caller sets.
use Rattle.std.specs.Prelude.{if◌then◌else◌, ℕ, ◌^◌, ◌==◌, nat_lt, Option, Some, None, bit_and, map}
use Rattle.word.specs.Bits.{bit0}
use Rattle.exception.specs.declared.flags.Flags.{Flags}
use Rattle.tlb.specs.Tlb.{blank, stamped, invalidate_of}
use Rattle.tlb.specs.declared.{entry.Entry.Entry, Inval.Inval}
use Rattle.tlb.specs.declared.Inval.TheVariants.{All, Page, Asid}
use Rattle.cpu.specs.Memory.{with_tlb}
use Rattle.cpu.specs.declared.Core.{Core}

abbrev pub with_pc : Core → ℕ → Core
with_pc c pc = record c { pc = pc }

-- PSTATE by an SPSR's word: NZCV are bits 31 to 28, DAIF bits 9 to 6, SP bit 0; the level is not set by it
abbrev pub flags_in : ℕ → Flags
flags_in psr = record { nzcv = bit_and psr 0xF000_0000; daif = bit_and psr 0x3C0; spsel = bit0 psr }

abbrev pub with_flags : Core → ℕ → Core
with_flags c psr = record c { flags = flags_in psr }

-- nothing pending
abbrev pub without_pending : Core → Core
without_pending c = record c { tlb = record c.tlb { broadcast = None } }

-- what two words of another core's broadcast name; an ASID has 16 bits
abbrev pub inval_named : ℕ → ℕ → Option Inval
inval_named kind v =
    if kind == 1 then Some All else if kind == 2 then Some (Page v) else if kind == 3 then (if nat_lt v (2 ^ 16) then Some (Asid v) else None) else None

-- it is done; 64 where they name nothing, and nothing changes
abbrev pub received : Core → Option Inval → Core
received c (Some what) = with_tlb c (invalidate_of c.tlb what)
received c None = c

abbrev pub number_received : Option Inval → ℕ
number_received (Some what) = 0
number_received None = 64

-- an entry when the cache takes another generation: one that is live stays live, any other goes
abbrev pub moved : ℕ → ℕ → Entry → Entry
moved from to e = if e.generation == from then stamped e to else blank

abbrev pub with_generation : Core → ℕ → Core
with_generation c to =
    record c { tlb = record c.tlb { generation = to; entries = map (moved c.tlb.generation to) c.tlb.entries } }

-- a generation has 32 bits
abbrev pub restamped : Core → ℕ → Core
restamped c to = if nat_lt to (2 ^ 32) then with_generation c to else c

abbrev pub number_restamped : ℕ → ℕ
number_restamped to = if nat_lt to (2 ^ 32) then 0 else 64
