-- The core that 5,213 words hold. Every list of words holds one: of a word that is too large for its part, only some bits count.
use Rattle.std.specs.Prelude.{if◌then◌else◌, None, Option, Some}
use Rattle.std.specs.Prelude.{ℕ, ◌+◌, ◌*◌, ◌%◌, ◌^◌, List, [], ◌∷◌, ◌==◌, nat_lt, slice_index}
use Rattle.word.specs.Bits.{bit_on, field}
use Rattle.sysreg.specs.Regs.{levels}
use Rattle.sysreg.specs.declared.{regs.Control.Control, regs.SysRegs.SysRegs}
use Rattle.exception.specs.declared.flags.Flags.{Flags}
use Rattle.tlb.specs.declared.{access.Privilege.Privilege, count.Tally.Tally, entry.Entry.Entry}
use Rattle.tlb.specs.declared.{hint.Hint.Hint, hint.FetchHint.FetchHint, Inval.Inval}
use Rattle.tlb.specs.declared.Inval.TheVariants.{All, Page, Asid}
use Rattle.cpu.specs.declared.Core.{Core}
use Rattle.word.specs.Tables.{table}
use Rattle.saved.specs.Places.{SCTLR, TCR, TTBR0, TTBR1-EL1, MAIR, VBAR, ELR, SPSR, ESR, FAR, SCR-EL3, HCR-EL2, VPIDR-EL2, VMPIDR-EL2, PAR-EL1, PC, NZCV}
use Rattle.saved.specs.Places.{DAIF, SPSEL, GENERAL, LEVEL, UNPRIVILEGED, FLUSHES, DROPS, EPOCH, PENDING, PENDING-VALUE, LAST-PA, ABORT-PA}
use Rattle.saved.specs.Places.{GENERATION, ASID, FETCH, FETCH-PAGE, FETCH-LEVEL, FETCH-PA, HINTS, HINT-PA, ENTRIES, ENTRY-GENERATION, ENTRY-ATTRIBUTES}
use Rattle.saved.specs.Places.{ENTRY-PA, LEVEL-HITS, LEVEL-WALKS}

-- word k
abbrev pub word : List ℕ → ℕ → ℕ
word ws k = slice_index ws k

-- a level that no byte holds is 255, which check 1 refuses like every level above 3
abbrev pub level_in : ℕ → ℕ
level_in v = if nat_lt v 256 then v else 255

-- the parts, of words given by their places

-- words 0 to 9, 28, 29
abbrev pub control_in : (ℕ → ℕ) → Control
control_in w =
    record {
      sctlr = levels (w SCTLR) (w (SCTLR + 1)) (w (SCTLR + 2));
      tcr = levels (w TCR) (w (TCR + 1)) (w (TCR + 2));
      ttbr0 = levels (w TTBR0) (w (TTBR0 + 1)) (w (TTBR0 + 2));
      ttbr1_el1 = w TTBR1-EL1;
      scr_el3 = w SCR-EL3;
      hcr_el2 = w HCR-EL2;
    }

-- words 10 to 27, 30 to 32
abbrev pub sys_in : (ℕ → ℕ) → SysRegs
sys_in w =
    record {
      mair = levels (w MAIR) (w (MAIR + 1)) (w (MAIR + 2));
      vbar = levels (w VBAR) (w (VBAR + 1)) (w (VBAR + 2));
      elr = levels (w ELR) (w (ELR + 1)) (w (ELR + 2));
      spsr = levels (w SPSR) (w (SPSR + 1)) (w (SPSR + 2));
      esr = levels (w ESR) (w (ESR + 1)) (w (ESR + 2));
      far = levels (w FAR) (w (FAR + 1)) (w (FAR + 2));
      vpidr_el2 = w VPIDR-EL2;
      vmpidr_el2 = w VMPIDR-EL2;
      par_el1 = w PAR-EL1;
    }

-- words 34 to 36
abbrev pub flags_in : (ℕ → ℕ) → Flags
flags_in w = record { nzcv = w NZCV % 2 ^ 32; daif = w DAIF % 2 ^ 32; spsel = (w SPSEL == 1) }

-- words 68 and 69
abbrev pub privilege_in : (ℕ → ℕ) → Privilege
privilege_in w = record { level = level_in (w LEVEL); unprivileged = (w UNPRIVILEGED == 1) }

-- words 5205 to 5208 and 5209 to 5212 by level, EL0 to EL3
abbrev pub tally_in : (ℕ → ℕ) → ℕ → Tally
tally_in w l = record { hits = w (LEVEL-HITS + l); walks = w (LEVEL-WALKS + l) }

abbrev pub tallies_in : (ℕ → ℕ) → List Tally
tallies_in w = tally_in w 0 ∷ tally_in w 1 ∷ tally_in w 2 ∷ tally_in w 3 ∷ []

-- words 75 and 76
abbrev pub pending_of : ℕ → ℕ → Option Inval
pending_of what v =
    if what == 1 then Some All else if what == 2 then Some (Page v) else if what == 3 then Some (Asid (v % 2 ^ 16)) else None

-- words 81 to 84: where word 81 is not 1 there is none, and the three after it hold nothing
abbrev pub fetch_in : (ℕ → ℕ) → Option FetchHint
fetch_in w = if w FETCH == 1 then Some (record { page = w FETCH-PAGE; level = w FETCH-LEVEL % 2 ^ 8; pa = w FETCH-PA }) else None

-- two words from 85 on for each data hint
abbrev pub hint_in : (ℕ → ℕ) → ℕ → Hint
hint_in w i = record { key = w (HINTS + i * 2); pa = w (HINT-PA + i * 2) }

-- four words from 1109 on for each entry: tag, generation, attributes, physical page
abbrev pub entry_of : ℕ → ℕ → ℕ → ℕ → Entry
entry_of tag generation bits pa =
    record {
      tag = tag;
      generation = generation % 2 ^ 32;
      perms = bits % 2 ^ 8;
      level = field bits 8 8;
      global = bit_on bits 16;
      asid = field bits 32 16;
      pa = pa;
    }

abbrev pub entry_in : (ℕ → ℕ) → ℕ → Entry
entry_in w j = entry_of (w (ENTRIES + j * 4)) (w (ENTRY-GENERATION + j * 4)) (w (ENTRY-ATTRIBUTES + j * 4)) (w (ENTRY-PA + j * 4))

-- the core of its small parts, its general registers, its data hints and its entries
unfoldable pub core_on : (ℕ → ℕ) → List ℕ → List Hint → List Entry → Core
core_on w xs hs es =
    record {
      privilege = privilege_in w;
      flags = flags_in w;
      pc = w PC;
      x = xs;
      control = control_in w;
      sys = sys_in w;
      tlb =
          record {
            generation = w GENERATION % 2 ^ 32;
            asid = w ASID % 2 ^ 16;
            entries = es;
            fetch = fetch_in w;
            hints = hs;
            levels = tallies_in w;
            flushes = w FLUSHES;
            drops = w DROPS;
            epoch = w EPOCH;
            broadcast = pending_of (w PENDING) (w PENDING-VALUE);
          };
      last_pa = w LAST-PA;
      abort_pa = w ABORT-PA;
    }

-- X0 to X30 are words 37 to 67
unfoldable pub core_by : (ℕ → ℕ) → Core
core_by w = core_on w (table 31 (λ n. w (GENERAL + n))) (table 512 (hint_in w)) (table 1024 (entry_in w))

unfoldable pub core_of : List ℕ → Core
core_of ws = core_by (word ws)
