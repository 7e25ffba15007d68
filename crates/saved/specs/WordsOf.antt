-- The 5,213 words of a core, by their places, and what of a core no word holds.
use Rattle.std.specs.Prelude.{if◌then◌else◌, List, [], ◌∷◌, ℕ, ◌+◌, ◌-◌, ◌*◌, ◌/◌, ◌%◌, ◌==◌, nat_lt, slice_index, Option, Some, None}
use Rattle.word.specs.Bits.{flag}
use Rattle.word.specs.Tables.{table}
use Rattle.sysreg.specs.Regs.{levels}
use Rattle.sysreg.specs.declared.{regs.Control.Control, regs.SysRegs.SysRegs}
use Rattle.tlb.specs.Tlb.{hint_at, entry_at, tally_at}
use Rattle.tlb.specs.declared.{entry.Entry.Entry, hint.Hint.Hint, hint.FetchHint.FetchHint, Inval.Inval}
use Rattle.tlb.specs.declared.Inval.TheVariants.{All, Page, Asid}
use Rattle.cpu.specs.declared.Core.{Core}
use Rattle.saved.specs.Places.{WORDS, GENERAL, LEVEL, HINTS, ENTRIES, LEVEL-HITS}

-- a register of EL1, EL2 and EL3, and the words after it
abbrev pub three : List ℕ → List ℕ → List ℕ
three xs later = slice_index xs 1 ∷ slice_index xs 2 ∷ slice_index xs 3 ∷ later

-- words 0 to 36: SCTLR to TTBR1_EL1, MAIR to FAR, SCR_EL3 to PAR_EL1, then PC and PSTATE
abbrev pub register_words : Core → List ℕ
register_words c =
    three c.control.sctlr
    (three c.control.tcr
    (three c.control.ttbr0
    (c.control.ttbr1_el1
    ∷ three c.sys.mair
    (three c.sys.vbar
    (three c.sys.elr
    (three c.sys.spsr
    (three c.sys.esr
    (three c.sys.far
    (c.control.scr_el3
    ∷ c.control.hcr_el2
    ∷ c.sys.vpidr_el2
    ∷ c.sys.vmpidr_el2
    ∷ c.sys.par_el1
    ∷ c.pc
    ∷ c.flags.nzcv
    ∷ c.flags.daif
    ∷ flag c.flags.spsel 1
    ∷ [])))))))))

-- what other cores are to drop: 0 nothing, 1 all, 2 a page, 3 an ASID; and the page or the ASID
abbrev pub pending_kind : Option Inval → ℕ
pending_kind None = 0
pending_kind (Some All) = 1
pending_kind (Some (Page p)) = 2
pending_kind (Some (Asid n)) = 3

abbrev pub pending_value : Option Inval → ℕ
pending_value None = 0
pending_value (Some All) = 0
pending_value (Some (Page p)) = p
pending_value (Some (Asid n)) = n

-- whether there is a fetch hint, and the hint, or zeros where there is none
abbrev pub fetch_known : Option FetchHint → ℕ
fetch_known None = 0
fetch_known (Some f) = 1

abbrev pub fetch_or_zeros : Option FetchHint → FetchHint
fetch_or_zeros None = record { page = 0; level = 0; pa = 0 }
fetch_or_zeros (Some f) = f

-- words 68 to 84: level and mark, two words that hold nothing, the other counters, what is pending, the addresses kept, generation and
-- ASID, and the fetch hint
abbrev pub state_words : Core → List ℕ
state_words c =
    c.privilege.level
    ∷ flag c.privilege.unprivileged 1
    ∷ 0
    ∷ 0
    ∷ c.tlb.flushes
    ∷ c.tlb.drops
    ∷ c.tlb.epoch
    ∷ pending_kind c.tlb.broadcast
    ∷ pending_value c.tlb.broadcast
    ∷ c.last_pa
    ∷ c.abort_pa
    ∷ c.tlb.generation
    ∷ c.tlb.asid
    ∷ fetch_known c.tlb.fetch
    ∷ (fetch_or_zeros c.tlb.fetch).page
    ∷ (fetch_or_zeros c.tlb.fetch).level
    ∷ (fetch_or_zeros c.tlb.fetch).pa
    ∷ []

-- a data hint's two words
abbrev pub hint_word : Hint → ℕ → ℕ
hint_word h k = if k == 0 then h.key else h.pa

-- permissions in bits 0 to 7, level in 8 to 15, bit 16 for every ASID, the ASID in 32 to 47
unfoldable pub attributes : Entry → ℕ
attributes e = e.perms + e.level * 256 + flag e.global 1 * 65536 + e.asid * 0x1_0000_0000

-- an entry's four words
abbrev pub entry_word : Entry → ℕ → ℕ
entry_word e k = if k == 0 then e.tag else if k == 1 then e.generation else if k == 2 then attributes e else e.pa

-- the last eight words: hits by level, EL0 to EL3, then walks
abbrev pub level_words : Core → List ℕ
level_words c =
    (tally_at c.tlb 0).hits
    ∷ (tally_at c.tlb 1).hits
    ∷ (tally_at c.tlb 2).hits
    ∷ (tally_at c.tlb 3).hits
    ∷ (tally_at c.tlb 0).walks
    ∷ (tally_at c.tlb 1).walks
    ∷ (tally_at c.tlb 2).walks
    ∷ (tally_at c.tlb 3).walks
    ∷ []

-- the word at a place; 0 past the last
unfoldable pub word_of : Core → ℕ → ℕ
word_of c p =
    if nat_lt p GENERAL then slice_index (register_words c) p
    else if nat_lt p LEVEL then slice_index c.x (p - GENERAL)
    else if nat_lt p HINTS then slice_index (state_words c) (p - LEVEL)
    else if nat_lt p ENTRIES then hint_word (hint_at c.tlb ((p - HINTS) / 2)) ((p - HINTS) % 2)
    else if nat_lt p LEVEL-HITS then entry_word (entry_at c.tlb ((p - ENTRIES) / 4)) ((p - ENTRIES) % 4)
    else slice_index (level_words c) (p - LEVEL-HITS)

-- all of them, in order
unfoldable pub words_of : Core → List ℕ
words_of c = table WORDS (word_of c)

-- The nine arrays by level have a place 0, which is 0 after reset, no operation writes and no word holds: the core with 0 there.
abbrev pub placed : List ℕ → List ℕ
placed xs = levels (slice_index xs 1) (slice_index xs 2) (slice_index xs 3)

abbrev pub held_control : Control → Control
held_control k =
    record k { sctlr = placed k.sctlr; tcr = placed k.tcr; ttbr0 = placed k.ttbr0 }

abbrev pub held_sys : SysRegs → SysRegs
held_sys s =
    record s {
      mair = placed s.mair;
      vbar = placed s.vbar;
      elr = placed s.elr;
      spsr = placed s.spsr;
      esr = placed s.esr;
      far = placed s.far;
    }

unfoldable pub held : Core → Core
held c =
    record c { control = held_control c.control; sys = held_sys c.sys }
