-- Worked cases: each regime's registers, and runs of calls.
use Rattle.std.specs.Prelude.{◌≡◌, false, List, [], ◌∷◌, ℕ, Option, Some, None, ◌+◌, ◌^◌, Bool, true, replicate, slice_index, map, ◌*◌}
use Rattle.word.specs.Ram.{bytes_of}
use Rattle.sysreg.specs.Regs.{levels, fresh_sys}
use Rattle.tlb.specs.declared.{Inval.Inval, Tlb.Tlb}
use Rattle.tlb.specs.declared.Inval.TheVariants.{All, Page, Asid}
use Rattle.fault.specs.First.{first}
use Rattle.walk.specs.Regime.{untagged}
use Rattle.sysreg.specs.declared.regs.Regime.TheVariants.{El1}
use Rattle.tlb.specs.Tlb.{tally_at, fresh}
use Rattle.tlb.specs.Translate.{no_work}
use Rattle.tlb.specs.declared.access.Kind.{Kind}
use Rattle.tlb.specs.declared.access.Kind.TheVariants.{Read, Fetch}
use Rattle.exception.specs.Pstate.{fresh_flags}
use Rattle.exception.specs.Abort.{data_abort_at}
use Rattle.exception.specs.declared.kind.Stop.{Stop}
use Rattle.cpu.specs.declared.Core.{Core}
use Rattle.cpu.specs.System.{after_register_write, sys_of}
use Rattle.cpu.specs.Step.{step_of, ram_after, Stepped}
use Rattle.cpu.specs.declared.{call.Call.Call, call.Reply.Reply}
use Rattle.cpu.specs.declared.call.Call.TheVariants.{Translate, Load, Store, System, Abort, Mark, DataPa, FetchPa, Fetch as FetchCall, Census}
use Rattle.cpu.specs.declared.call.Call.TheVariants.{Windows, Flip}
use Rattle.cpu.specs.declared.call.Reply.TheVariants.{Value, Fault, Stopped}
use Rattle.cpu.specs.CheckRows.{RowsHold}
use Rattle.sysreg.specs.declared.regs.Control.{Control}
use Rattle.cpu.specs.Work.{step_work}

-- SCTLR_ELx, TCR_ELx and TTBR0_ELx of EL1, EL2 and EL3 as given, the other registers that translation reads zero
abbrev registers : List ℕ → List ℕ → List ℕ → Control
registers sctlr tcr ttbr0 = record { sctlr = sctlr; tcr = tcr; ttbr0 = ttbr0; ttbr1_el1 = 0; scr_el3 = 0; hcr_el2 = 0 }

-- AT, register writes and TLBI as computed statements. AT by its encoding, for each regime: PAR_EL1 has the attributes of the regime's own MAIR.

-- At EL3 with x0 = 0x40001234: in each regime stage 1 on, TCR_ELx = 25, TTBR0_ELx = 0x1000; MAIR_ELx differ.
abbrev translating : Core → Core
translating c =
    record c {
      privilege = record { level = 3; unprivileged = false };
      x = 0x4000_1234 ∷ [];
      control = registers (levels 1 1 1) (levels 25 25 25) (levels 0x1000 0x1000 0x1000);
      sys = record c.sys { mair = levels 0x1716_1514_13A1_1110 0x2726_2524_23B2_2120 0x3736_3534_33C3_3130 };
    }

-- PAR_EL1 after SYS op1, 7, 8, op2 of x0, where at 0x1008 stands a block of 1 GiB with AttrIndx<4:2> 2
abbrev par_after : Core → ℕ → ℕ → ℕ
par_after c op1 op2 = (sys_of (translating c) 0x1008 (bytes_of 8 0x8000_0409) op1 7 8 op2 0).core.sys.par_el1

-- AT S1E1R, S12E1R, S1E2R and S1E3R
pub record Attributes (c : Core) : Type 0 where
  pub s1e1r : par_after c 0 0 ≡ 0xA100_0000_8000_1800
  pub s12e1r : par_after c 4 4 ≡ 0xA100_0000_8000_1800
  pub s1e2r : par_after c 4 0 ≡ 0xB200_0000_8000_1800
  pub s1e3r : par_after c 6 0 ≡ 0xC300_0000_8000_1800

-- A register write and the cache. At EL1 with every register of translation zero but TTBR0_EL1.ASID<63:48>, which is 3: the cache's ASID is 3 and its
-- generation 7; 20 flushes and 30 changes of the cache were counted.
abbrev written_to : Core → Core
written_to c =
    record c {
      privilege = record { level = 1; unprivileged = false };
      control = registers (levels 0 0 0) (levels 0 0 0) (levels 0x3_0000_0000_0000 0 0);
      tlb = record c.tlb { generation = 7; asid = 3; flushes = 20; epoch = 30 };
    }

-- the flushes and the changes that are counted, and the cache's generation and ASID
abbrev counted : Tlb → List ℕ
counted t = t.flushes ∷ t.epoch ∷ t.generation ∷ t.asid ∷ []

-- after a write of a value to the register of op0:op1:CRn:CRm:op2
abbrev after_write : Core → ℕ → ℕ → List ℕ
after_write c key value = counted (after_register_write (written_to c) key value).core.tlb

abbrev unmoved : List ℕ
unmoved = 20 ∷ 30 ∷ 7 ∷ 3 ∷ []

abbrev flush : List ℕ
flush = 21 ∷ 31 ∷ 8 ∷ 3 ∷ []

abbrev retag : ℕ → List ℕ
retag n = 20 ∷ 31 ∷ 7 ∷ n ∷ []

-- SCTLR_ELx, TCR_ELx, TTBR0_EL2 and EL3, HCR_EL2 and SCR_EL3 flush; by TTBR0_EL1 the ASID changes alone, and so by TTBR1_EL1 where TCR_EL1.A1<22> is
-- set; MAIR_EL1 and VBAR_EL1 do nothing, and so does a write of what is there.
pub record Refits (c : Core) : Type 0 where
  pub sctlr_el1 : after_write c 0xC080 1 ≡ flush
  pub sctlr_el2 : after_write c 0xE080 1 ≡ flush
  pub sctlr_el3 : after_write c 0xF080 1 ≡ flush
  pub tcr_el1 : after_write c 0xC102 1 ≡ flush
  pub tcr_el2 : after_write c 0xE102 1 ≡ flush
  pub tcr_el3 : after_write c 0xF102 1 ≡ flush
  pub ttbr0_el2 : after_write c 0xE100 1 ≡ flush
  pub ttbr0_el3 : after_write c 0xF100 1 ≡ flush
  pub hcr_el2 : after_write c 0xE088 1 ≡ flush
  pub scr_el3 : after_write c 0xF088 1 ≡ flush
  pub other_asid : after_write c 0xC100 0x5_0000_0000_1000 ≡ retag 5
  pub same_asid : after_write c 0xC100 0x3_0000_0000_1000 ≡ unmoved
  pub ttbr1_el1 : after_write c 0xC101 0x5_0000_0000_1000 ≡ unmoved
  pub by_ttbr1 : after_write c 0xC102 0x40_0000 ≡ (21 ∷ 32 ∷ 8 ∷ 0 ∷ [])
  pub mair_el1 : after_write c 0xC510 1 ≡ unmoved
  pub vbar_el1 : after_write c 0xC600 0x800 ≡ unmoved
  pub same_value : after_write c 0xC080 0 ≡ unmoved

-- TLBI of x0 at EL3, with 4 KiB everywhere: 20 flushes, 25 drops of a page and 30 changes were counted, the generation is 7, and this is pending for the
-- other cores.
abbrev invalidating : Core → Option Inval → Core
invalidating c pending =
    record c {
      privilege = record { level = 3; unprivileged = false };
      x = 0xABCD_0000_0000_1234 ∷ [];
      control = registers (levels 0 0 0) (levels 0x8000_0000 0 0) (levels 0 0 0);
      tlb = record c.tlb { generation = 7; asid = 3; flushes = 20; drops = 25; epoch = 30; broadcast = pending };
    }

abbrev after_tlbi : Core → Option Inval → ℕ → ℕ → ℕ → Tlb
after_tlbi c pending op1 crm op2 = (sys_of (invalidating c pending) 0 [] op1 8 crm op2 0).core.tlb

-- the flushes, the drops and the changes, and the generation
abbrev kept : Core → ℕ → ℕ → ℕ → List ℕ
kept c op1 crm op2 =
    let t = after_tlbi c None op1 crm op2 in
    t.flushes ∷ t.drops ∷ t.epoch ∷ t.generation ∷ []

abbrev pending_after : Core → Option Inval → ℕ → ℕ → ℕ → Option Inval
pending_after c pending op1 crm op2 = (after_tlbi c pending op1 crm op2).broadcast

-- VMALLE1, VAE1 and ASIDE1 with CRm 7, and their Inner Shareable forms with CRm 3, which alone leave something pending: what they drop, and everything
-- where something else was
pub record Invalidations (c : Core) : Type 0 where
  pub all : kept c 0 7 0 ≡ (21 ∷ 25 ∷ 31 ∷ 8 ∷ [])
  pub page : kept c 0 7 1 ≡ (20 ∷ 26 ∷ 31 ∷ 7 ∷ [])
  pub an_asid : kept c 0 7 2 ≡ (20 ∷ 25 ∷ 31 ∷ 7 ∷ [])
  pub all_shared : kept c 0 3 0 ≡ (21 ∷ 25 ∷ 31 ∷ 8 ∷ [])
  pub page_shared : kept c 0 3 1 ≡ (20 ∷ 26 ∷ 31 ∷ 7 ∷ [])
  pub an_asid_shared : kept c 0 3 2 ≡ (20 ∷ 25 ∷ 31 ∷ 7 ∷ [])
  pub left_all : pending_after c None 0 7 0 ≡ None
  pub left_page : pending_after c None 0 7 1 ≡ None
  pub left_asid : pending_after c None 0 7 2 ≡ None
  pub pending_all : pending_after c None 0 3 0 ≡ Some All
  pub pending_page : pending_after c None 0 3 1 ≡ Some (Page 0xABCD_0000_0000_1234)
  pub pending_asid : pending_after c None 0 3 2 ≡ Some (Asid 0xCD)
  pub same_again : pending_after c (Some (Asid 0xCD)) 0 3 2 ≡ Some (Asid 0xCD)
  pub another : pending_after c (Some (Asid 0xCE)) 0 3 2 ≡ Some All
  pub pending_stays : pending_after c (Some (Asid 0xCE)) 0 7 0 ≡ Some (Asid 0xCE)

-- The thirteen worked cases of docs/SCOPE.md and the last address in range, as computed statements about calls on a core with an empty cache: what each
-- answers, and how many descriptors it reads; those of stage 1 off; and those of two pages whose second faults.

-- a core at a level with SCTLR_EL1.M set, TCR_EL1 = 25 and TTBR0_EL1 as given, other registers zero, the address in X0, and an empty cache
unfoldable pub at : ℕ → ℕ → Core
at level ttbr0 =
    record {
      privilege = record { level = level; unprivileged = false };
      flags = fresh_flags;
      pc = 0;
      x = 0x40001234 ∷ replicate 30 0;
      control = registers (levels 1 0 0) (levels 25 0 0) (levels ttbr0 0 0);
      sys = fresh_sys;
      tlb = fresh;
      last_pa = 0;
      abort_pa = 0;
    }

-- a call with what it is made on: a core, and a window of RAM
pub record Made : Type 0 where
  pub core : Core
  pub base : ℕ
  pub ram : List ℕ
  pub call : Call

abbrev pub made : Core → ℕ → List ℕ → Call → Made
made c base ram call = record { core = c; base = base; ram = ram; call = call }

abbrev pub after : Made → Stepped
after m = step_of m.core m.base m.ram m.call

-- the descriptors that it reads
abbrev pub reads : Made → ℕ
reads m = (step_work m.core m.base m.ram m.call no_work).reads

-- what is looked at after it: the reply, but of a system operation PAR_EL1, and of an abort entry ESR_EL1
abbrev pub told_by : Call → Stepped → Reply
told_by (System e) s = Value s.core.sys.par_el1
told_by (Abort e) s = Value (slice_index s.core.sys.esr 1)
told_by _ s = s.reply

abbrev pub told : Made → Reply
told m = told_by m.call (after m)

-- cases 1 to 6: the word at 0x1008, address 0x40001234
abbrev pub row : ℕ → ℕ → Kind → Made
row level word kind = made (at level 0x1000) 0x1008 (bytes_of 8 word) (Translate kind 0x40001234)

-- a case of its own: TTBR0, the window's address and the address read
abbrev pub elsewhere : ℕ → ℕ → ℕ → Made
elsewhere ttbr0 base va = made (at 1 ttbr0) base (bytes_of 8 0x80000401) (Translate Read va)

-- AT S1E1R and S1E0R by their op2
abbrev pub at_by : ℕ → Call
at_by op2 = System (record { op1 = 0; crn = 7; crm = 8; op2 = op2; rt = 0 })

-- AT of X0 in case 1
abbrev pub par : ℕ → Made
par op2 = made (at 1 0x1000) 0x1008 (bytes_of 8 0x80000401) (at_by op2)

-- abort entry from EL0
abbrev pub esr : Made
esr = made (at 0 0x1000) 0x1008 (bytes_of 8 0x80000401) (Abort (data_abort_at 0x40001234 true (first 0x0D)))

-- each case but 12, what is told, and the descriptors read
abbrev pub cases : List (Made × Reply × ℕ)
cases =
    (row 1 0x80000401 Read, Value 0x80001234, 1)
    ∷ (row 0 0x80000401 Read, Fault 0x40001234 (first 0x0D), 1)
    ∷ (row 0 0x80000401 Fetch, Value 0x80001234, 1)
    ∷ (row 1 0x80000001 Read, Fault 0x40001234 (first 0x09), 1)
    ∷ (row 1 0 Read, Fault 0x40001234 (first 0x05), 1)
    ∷ (row 1 0x100000001 Read, Fault 0x40001234 (first 0x01), 1)
    ∷ (elsewhere 0x1000 0x1008 0x8000000000, Fault 0x8000000000 (first 0x04), 0)
    ∷ (elsewhere 0x100000000 0x1008 0x40001234, Fault 0x40001234 (first 0x00), 0)
    ∷ (elsewhere 0x1000 0x1010 0x40001234, Fault 0x40001234 (first 0x15), 1)
    ∷ (par 0, Value 0x80001800, 1)
    ∷ (par 2, Value 0x81B, 1)
    ∷ (esr, Value 0x9200004D, 0)
    ∷ (elsewhere 0x1000 0x1FF8 0x7FFFFFFFFF, Value 0xBFFFFFFF, 1)
    ∷ []

-- and case 12, which is no call
abbrev pub ProvedCases : Type 0
ProvedCases =
    (map (λ (c : Made × Reply × ℕ). told c.0) cases ≡ map (λ (c : Made × Reply × ℕ). c.1) cases)
    × (untagged (2 ^ 38) El1 0x12FFFFFFFFFFF000 ≡ 0xFFFFFFFFFFFFF000)

-- WITH STAGE 1 OFF, in the regime of each level

-- a core at a level, TCR_ELx of each regime as given, stage 1 off, the address in X0
unfoldable pub off : ℕ → ℕ → ℕ → Core
unfolding at
off level tcr x0 = record (at level 0) { x = x0 ∷ replicate 30 0; control = registers (levels 0 0 0) (levels tcr tcr tcr) (levels 0 0 0) }

-- a read of an address, a load of eight bytes, and AT S1E1R of X0 at EL1; the word stands at 0x1000
abbrev pub flat : ℕ → ℕ → ℕ → Reply
flat level tcr va = told (made (off level tcr 0) 0x1000 (bytes_of 8 0x80000401) (Translate Read va))

abbrev pub flat_load : ℕ → ℕ → ℕ → Reply
flat_load level tcr va = told (made (off level tcr 0) 0x1000 (bytes_of 8 0x80000401) (Load va 8))

abbrev pub flat_par : ℕ → ℕ → Reply
flat_par tcr x0 = told (made (off 1 tcr x0) 0x1000 (bytes_of 8 0) (at_by 0))

-- TBI0 and TBI, and TBI1
abbrev tbi : ℕ
tbi = 2 ^ 37 + 2 ^ 20

abbrev tbi1 : ℕ
tbi1 = 2 ^ 38

-- a data abort
abbrev aborts : ℕ → Bool → ℕ → Reply
aborts va write status = Stopped (Stop.Exception (data_abort_at va write (first status)))

abbrev pub FlatCases : Type 0
FlatCases =
    RowsHold
    ((flat 1 0 0x0FFFFFFFFFFF, Value 0x0FFFFFFFFFFF)
    ∷ (flat 1 0 0x100000000000, Fault 0x100000000000 (first 0x00))
    ∷ (flat_load 1 0 0x100000000000, aborts 0x100000000000 false 0x00)
    ∷ (flat_par 0 0x0FFFFFFFF000, Value 0x0FFFFFFFF800)
    ∷ (flat_par 0 0x100000000000, Value 0x801)
    ∷ (flat_par tbi 0x5A00000000001000, Value 0x1800)
    ∷ (flat_load 0 tbi 0x5A00000000001000, Value 0x80000401)
    ∷ (flat_load 1 tbi 0x5A00000000001000, Value 0x80000401)
    ∷ (flat_load 2 tbi 0x5A00000000001000, Value 0x80000401)
    ∷ (flat_load 3 tbi 0x5A00000000001000, Value 0x80000401)
    ∷ (flat_load 3 0 0x5A00000000001000, aborts 0x5A00000000001000 false 0x00)
    ∷ (flat 1 tbi1 0xFF80000000001000, Fault 0xFF80000000001000 (first 0x00))
    ∷ (flat 3 tbi 0xFF80000000001000, Fault 0xFF80000000001000 (first 0x00))
    ∷ [])

-- TWO PAGES, the second of which faults: the lowest failing byte decides

-- the reply to a call, with `last_pa`, `abort_pa` and the walks that EL1 counts after it
abbrev pub left : Made → Reply × List ℕ
left m = let s = after m in (s.reply, s.core.last_pa ∷ s.core.abort_pa ∷ (tally_at s.core.tlb 1).walks ∷ [])

-- the table at 0x1000: what stands there at 0x1008 and at 0x1010
abbrev pub low : ℕ → Call → Made
low words call = made (at 1 0x1000) 0x1008 (bytes_of 16 words) call

-- the table at 0x3FFFF000, whose word at 0x3FFFFFF0 maps the gibibyte from 0x7F80000000 on to that from 0 on; n bytes of RAM from that word on
abbrev pub high : ℕ → Call → Made
high n call = made (at 1 0x3FFFF000) 0x3FFFFFF0 (bytes_of n 0x401) call

-- The first byte of the first page outside; the second; the second of a store; none, so that the second page's fault decides. Both pages translate, and
-- all bytes of both lie outside. The first page faults.
abbrev pub CrossingCases : Type 0
CrossingCases =
    RowsHold
    ((left (low 0x80000401 (Load 0x7FFFFFFF 8)), (aborts 0x7FFFFFFF false 0x10, 0 ∷ 0xBFFFFFFF ∷ 2 ∷ []))
    ∷ (left (high 15 (Load 0x7FBFFFFFFE 8)), (aborts 0x7FBFFFFFFF false 0x10, 0 ∷ 0x3FFFFFFF ∷ 2 ∷ []))
    ∷ (left (high 15 (Store 0x7FBFFFFFFE 8 0)), (aborts 0x7FBFFFFFFF true 0x10, 0 ∷ 0x3FFFFFFF ∷ 2 ∷ []))
    ∷ (left (high 16 (Load 0x7FBFFFFFFE 8)), (aborts 0x7FC0000000 false 0x05, 0 ∷ 0 ∷ 2 ∷ []))
    ∷ (left (low 0xC00004010000000080000401 (Load 0x7FFFFFFF 8)), (aborts 0x7FFFFFFF false 0x10, 0xBFFFFFFF ∷ 0xBFFFFFFF ∷ 2 ∷ []))
    ∷ (left (low 0 (Load 0x7FFFFFFF 8)), (aborts 0x7FFFFFFF false 0x05, 0 ∷ 0 ∷ 1 ∷ []))
    ∷ [])

-- and a store of ones there leaves the byte before the failing one
abbrev pub CrossingRam : Type 0
CrossingRam = ram_after (at 1 0x3FFFF000) 0x3FFFFFF0 (bytes_of 15 0x401) (Store 0x7FBFFFFFFE 8 0xFFFF) ≡ bytes_of 15 0x401

-- THE DESCRIPTORS THAT CALLS READ: those of the worked cases, and of walks over four levels and three

-- a call once more, and one after the mark was set
abbrev again : Made → Made
again m = record m { core = (after m).core }

abbrev marked : Made → Made
marked m = record m { core = (after (record m { call = Mark true })).core }

-- the cases; the first again, by its hint, and under the mark, by its entry; and a load over two pages
abbrev pub ReadCases : Type 0
ReadCases =
    (map (λ (c : Made × Reply × ℕ). reads c.0) cases ≡ map (λ (c : Made × Reply × ℕ). c.2) cases)
    × RowsHold
    ((reads (again (row 1 0x80000401 Read)), 0)
    ∷ (reads (marked (again (row 1 0x80000401 Read))), 0)
    ∷ (reads (low 0x80000401 (Load 0x7FFFFFFF 8)), 2)
    ∷ [])

-- A TABLE THAT IS EACH LEVEL'S: its word at index 1 leads to itself, and is a page at the last level

-- at EL1, TCR_EL1 and TTBR0_EL1 as given, an address of the page in X0
unfoldable pub deep : ℕ → ℕ → Core
deep tcr ttbr0 =
    record (at 1 0) { x = 0x8040201040 ∷ replicate 30 0; control = registers (levels 1 0 0) (levels tcr 0 0) (levels ttbr0 0 0) }

-- T0SZ 16 and a granule of 4 KiB: the words at 0x1008 and 0x1010 map the pages of 0x8040201000 and 0x8040202000, and RAM ends behind a line of the first
abbrev on_four : Core → Call → Made
on_four c call = made c 0x1008 (bytes_of 120 (0x1443 + 0x2443 * 2 ^ 64)) call

abbrev four : Call → Made
four call = on_four (deep 16 0x1000) call

-- where the first of the pages is known
abbrev known : Call → Made
known call = record (again (four (Translate Read 0x8040201234))) { call = call }

-- DC ZVA of X0, and TLBI VMALLE1
abbrev zva : Call
zva = System (record { op1 = 3; crn = 7; crm = 4; op2 = 1; rt = 0 })

abbrev tlbi : Call
tlbi = System (record { op1 = 0; crn = 8; crm = 7; op2 = 0; rt = 31 })

-- A translation, and again: by its hint; under the mark: by its entry. An access over two pages, whose bytes lie outside RAM; and where the first page is
-- known. The third descriptor lies outside RAM. EPD0. A granule of 64 KiB.
abbrev pub WorkedReads : Type 0
WorkedReads =
    RowsHold
    ((reads (four (Translate Read 0x8040201234)), 4)
    ∷ (reads (known (Translate Read 0x8040201234)), 0)
    ∷ (reads (marked (known (Translate Read 0x8040201234))), 0)
    ∷ (reads (four (Load 0x8040201FFC 8)), 8)
    ∷ (reads (known (Load 0x8040201FFC 8)), 4)
    ∷ (reads (four (Translate Read 0x8040601234)), 3)
    ∷ (reads (on_four (deep 0x90 0x1000) (Translate Read 0x8040201234)), 0)
    ∷ (reads (made (deep 0x4010 0x10000) 0x10008 (bytes_of 8 0x10443) (Translate Read 0x40020011234)), 3)
    ∷ [])

-- Each call that may read: where a read or a fetch of the page goes, a load, a store, a fetch, a zeroing, an AT; and an AT where the page is known. An AT with
-- stage 1 off, TLBI, a census, windows and a flip read none.
abbrev pub ReadsOfCalls : Type 0
ReadsOfCalls =
    RowsHold
    ((reads (four (DataPa 0x8040201234)), 4)
    ∷ (reads (four (FetchPa 0x8040201234)), 4)
    ∷ (reads (four (Load 0x8040201040 8)), 4)
    ∷ (reads (four (Store 0x8040201040 8 7)), 4)
    ∷ (reads (four (FetchCall 0x8040201040)), 4)
    ∷ (reads (four zva), 4)
    ∷ (reads (four (at_by 0)), 4)
    ∷ (reads (known (at_by 0)), 4)
    ∷ (reads (on_four (off 1 16 0x8040201040) (at_by 0)), 0)
    ∷ (reads (four tlbi), 0)
    ∷ (reads (four (Census 0x8040201000 1)), 0)
    ∷ (reads (four Windows), 0)
    ∷ (reads (four (Flip Read true 0x8040201234)), 0)
    ∷ [])
