-- The word of each part of a core, by the name of its place.
use Rattle.std.specs.Prelude.{◌≡◌, ℕ, ◌+◌, ◌-◌, ◌*◌, ◌<◌}
use Rattle.word.specs.Bits.{flag}
use Rattle.sysreg.specs.Regs.{index_of, reg_at}
use Rattle.sysreg.specs.declared.{regs.Regime.Regime, regs.Register.Register}
use Rattle.sysreg.specs.declared.regs.Register.TheVariants.{Sctlr, Tcr, Ttbr0, Ttbr1, Scr, Hcr, Mair, Vbar, Elr, Spsr, Esr, Far, Vpidr, Vmpidr, Par}
use Rattle.tlb.specs.Tlb.{hint_at, entry_at, tally_at}
use Rattle.cpu.specs.Core.{reg_of}
use Rattle.cpu.specs.declared.Core.{Core}
use Rattle.saved.specs.Places.{SCTLR, TCR, TTBR0, TTBR1-EL1, MAIR, VBAR, ELR, SPSR, ESR, FAR, SCR-EL3, HCR-EL2, VPIDR-EL2, VMPIDR-EL2, PAR-EL1, PC}
use Rattle.saved.specs.Places.{NZCV, DAIF, SPSEL, GENERAL, LEVEL, UNPRIVILEGED, FLUSHES, DROPS, EPOCH, LAST-PA, ABORT-PA, GENERATION, ASID, FETCH}
use Rattle.saved.specs.Places.{FETCH-PAGE, FETCH-LEVEL, FETCH-PA, HINTS, HINT-PA, ENTRIES, ENTRY-GENERATION, ENTRY-ATTRIBUTES, ENTRY-PA, LEVEL-HITS}
use Rattle.saved.specs.Places.{LEVEL-WALKS}
use Rattle.saved.specs.WordsOf.{attributes, fetch_known, fetch_or_zeros, word_of}

-- of three words, by the level that the register belongs to
abbrev pub by_level : ℕ → Regime → ℕ
by_level place el = place + (index_of el - 1)

abbrev pub register_place : Register → ℕ
register_place (Sctlr el) = by_level SCTLR el
register_place (Tcr el) = by_level TCR el
register_place (Ttbr0 el) = by_level TTBR0 el
register_place Ttbr1 = TTBR1-EL1
register_place Scr = SCR-EL3
register_place Hcr = HCR-EL2
register_place (Mair el) = by_level MAIR el
register_place (Vbar el) = by_level VBAR el
register_place (Elr el) = by_level ELR el
register_place (Spsr el) = by_level SPSR el
register_place (Esr el) = by_level ESR el
register_place (Far el) = by_level FAR el
register_place Vpidr = VPIDR-EL2
register_place Vmpidr = VMPIDR-EL2
register_place Par = PAR-EL1

-- the parts that stand alone
pub record Named (c : Core) : Type 0 where
  pub pc : word_of c PC ≡ c.pc
  pub nzcv : word_of c NZCV ≡ c.flags.nzcv
  pub daif : word_of c DAIF ≡ c.flags.daif
  pub spsel : word_of c SPSEL ≡ flag c.flags.spsel 1
  pub level : word_of c LEVEL ≡ c.privilege.level
  pub unprivileged : word_of c UNPRIVILEGED ≡ flag c.privilege.unprivileged 1
  pub flushes : word_of c FLUSHES ≡ c.tlb.flushes
  pub drops : word_of c DROPS ≡ c.tlb.drops
  pub epoch : word_of c EPOCH ≡ c.tlb.epoch
  pub last : word_of c LAST-PA ≡ c.last_pa
  pub abort : word_of c ABORT-PA ≡ c.abort_pa
  pub generation : word_of c GENERATION ≡ c.tlb.generation
  pub asid : word_of c ASID ≡ c.tlb.asid
  pub fetch : word_of c FETCH ≡ fetch_known c.tlb.fetch
  pub fetch_page : word_of c FETCH-PAGE ≡ (fetch_or_zeros c.tlb.fetch).page
  pub fetch_level : word_of c FETCH-LEVEL ≡ (fetch_or_zeros c.tlb.fetch).level
  pub fetch_pa : word_of c FETCH-PA ≡ (fetch_or_zeros c.tlb.fetch).pa

pub record HintNamed (c : Core) (i : ℕ) : Type 0 where
  pub key : word_of c (HINTS + i * 2) ≡ (hint_at c.tlb i).key
  pub pa : word_of c (HINT-PA + i * 2) ≡ (hint_at c.tlb i).pa

pub record EntryNamed (c : Core) (j : ℕ) : Type 0 where
  pub tag : word_of c (ENTRIES + j * 4) ≡ (entry_at c.tlb j).tag
  pub generation : word_of c (ENTRY-GENERATION + j * 4) ≡ (entry_at c.tlb j).generation
  pub attributes : word_of c (ENTRY-ATTRIBUTES + j * 4) ≡ attributes (entry_at c.tlb j)
  pub pa : word_of c (ENTRY-PA + j * 4) ≡ (entry_at c.tlb j).pa

pub record TallyNamed (c : Core) (l : ℕ) : Type 0 where
  pub hits : word_of c (LEVEL-HITS + l) ≡ (tally_at c.tlb l).hits
  pub walks : word_of c (LEVEL-WALKS + l) ≡ (tally_at c.tlb l).walks

-- THE STATEMENTS

abbrev pub registers_named : Type 0
registers_named = (c : Core) (r : Register) → word_of c (register_place r) ≡ reg_at c.control c.sys r

abbrev pub general_named : Type 0
general_named = (c : Core) (n : ℕ) → n < 31 → word_of c (GENERAL + n) ≡ reg_of c n

abbrev pub parts_named : Type 0
parts_named = (c : Core) → Named c

abbrev pub hints_named : Type 0
hints_named = (c : Core) (i : ℕ) → i < 512 → HintNamed c i

abbrev pub entries_named : Type 0
entries_named = (c : Core) (j : ℕ) → j < 1024 → EntryNamed c j

abbrev pub tallies_named : Type 0
tallies_named = (c : Core) (l : ℕ) → l < 4 → TallyNamed c l
