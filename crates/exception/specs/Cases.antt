-- Worked case 13 of docs/SCOPE.md, entries of each kind, and the recorded departures: `theorems` promises them, each row computed. The PC is 0x8000;
-- VBAR_ELx are 0x10000, 0x20000 and 0x30000; FAR_ELx hold 0xF1, 0xF2 and 0xF3 before.
use Rattle.std.specs.Prelude.{◌≡◌, ℕ, Bool, true, false, List, [], ◌∷◌, None, ◌+◌, Option, Some, map}
use Rattle.fault.specs.First.{first}
use Rattle.sysreg.specs.Regs.{levels, sys_at, fresh_sys}
use Rattle.sysreg.specs.declared.{regs.Regime.Regime, regs.SysRegs.SysRegs}
use Rattle.sysreg.specs.declared.regs.Regime.TheVariants.{El1, El2, El3}
use Rattle.sysreg.specs.declared.regs.Register.TheVariants.{Elr, Spsr, Esr, Far}
use Rattle.exception.specs.declared.{kind.Exception.Exception, flags.Flags.Flags}
use Rattle.exception.specs.declared.kind.Exception.TheVariants.{Svc, Hvc, Smc, Brk, PcAlignment, Undefined}
use Rattle.exception.specs.Abort.{data_abort_at, insn_abort_at}
use Rattle.exception.specs.Entry.{Entered, enter_of, take_sync}
use Rattle.exception.specs.Syndrome.{syndrome_of}
use Rattle.exception.specs.Pstate.{flags, spsr_of}

abbrev pub registers : SysRegs
registers = record fresh_sys { vbar = levels 0x10000 0x20000 0x30000; far = levels 0xF1 0xF2 0xF3 }

-- N and Z set, nothing masked, SP_EL0
abbrev pub user : Flags
user = record { nzcv = 0xC000_0000; daif = 0; spsel = false }

-- all masked; SP_ELx or SP_EL0
abbrev pub masked : Bool → Flags
masked sp = record { nzcv = 0; daif = 0x3C0; spsel = sp }

-- the level, the PC, and ESR, FAR, ELR, SPSR of a level
abbrev pub seen : Regime → Entered → List ℕ
seen r n = n.level ∷ n.pc ∷ sys_at n.sys (Esr r) ∷ sys_at n.sys (Far r) ∷ sys_at n.sys (Elr r) ∷ sys_at n.sys (Spsr r) ∷ []

-- an exception at a level, with SCR_EL3 and HCR_EL2, and what is seen at a level
abbrev pub entry : ℕ → Flags → ℕ → ℕ → Exception → Regime → List ℕ
entry level f scr hcr e r = seen r (take_sync level f 0x8000 scr hcr registers e)

-- case 13 again, and entries of each kind
pub record WorkedEntries : Type 0 where
  pub case_13 : entry 0 user 0 0 (data_abort_at 0x40001234 true (first 0x0D)) El1 ≡ (1 ∷ 0x10400 ∷ 0x9200004D ∷ 0x40001234 ∷ 0x8000 ∷ 0xC0000000 ∷ [])
  pub svc : entry 0 user 0 0 (Svc 0x1234) El1 ≡ (1 ∷ 0x10400 ∷ 0x56001234 ∷ 0xF1 ∷ 0x8004 ∷ 0xC0000000 ∷ [])
  pub svc_with_tge : entry 0 user 1 0x8000000 (Svc 0x1234) El2 ≡ (2 ∷ 0x20400 ∷ 0x56001234 ∷ 0xF2 ∷ 0x8004 ∷ 0xC0000000 ∷ [])
  pub fetch_secure_with_tge : entry 0 user 0 0x8000000 (insn_abort_at 0x5000 (first 0x0F)) El1 ≡ (1 ∷ 0x10400 ∷ 0x8200000F ∷ 0x5000 ∷ 0x8000 ∷ 0xC0000000 ∷ [])
  pub abort_to_itself : entry 1 (masked true) 1 0 (data_abort_at 0x6000 false (first 0x05)) El1 ≡ (1 ∷ 0x10200 ∷ 0x96000005 ∷ 0x6000 ∷ 0x8000 ∷ 0x3C5 ∷ [])
  pub hvc : entry 1 (masked true) 0x101 0 (Hvc 1) El2 ≡ (2 ∷ 0x20400 ∷ 0x5A000001 ∷ 0xF2 ∷ 0x8004 ∷ 0x3C5 ∷ [])
  pub hvc_without_hce : entry 1 (masked true) 1 0 (Hvc 1) El1 ≡ (1 ∷ 0x10200 ∷ 0x2000000 ∷ 0xF1 ∷ 0x8000 ∷ 0x3C5 ∷ [])
  pub hvc_secure : entry 1 (masked true) 0x100 0 (Hvc 1) El1 ≡ (1 ∷ 0x10200 ∷ 0x2000000 ∷ 0xF1 ∷ 0x8000 ∷ 0x3C5 ∷ [])
  pub smc : entry 1 (masked true) 1 0 (Smc 1) El3 ≡ (3 ∷ 0x30400 ∷ 0x5E000001 ∷ 0xF3 ∷ 0x8004 ∷ 0x3C5 ∷ [])
  pub smc_with_tsc : entry 1 (masked true) 1 0x80000 (Smc 1) El2 ≡ (2 ∷ 0x20400 ∷ 0x5E000001 ∷ 0xF2 ∷ 0x8000 ∷ 0x3C5 ∷ [])
  pub smc_with_smd : entry 2 (masked true) 0x81 0x80000 (Smc 1) El2 ≡ (2 ∷ 0x20200 ∷ 0x2000000 ∷ 0xF2 ∷ 0x8000 ∷ 0x3C9 ∷ [])
  pub brk : entry 2 (masked true) 1 0 (Brk 7) El2 ≡ (2 ∷ 0x20200 ∷ 0xF2000007 ∷ 0xF2 ∷ 0x8000 ∷ 0x3C9 ∷ [])
  pub pc_alignment_sp_el0 : entry 3 (masked false) 1 0x8000000 PcAlignment El3 ≡ (3 ∷ 0x30000 ∷ 0x8A000000 ∷ 0x8000 ∷ 0x8000 ∷ 0x3CC ∷ [])

-- the rows of docs/DIFFERENCES.md
pub record WorkedDepartures : Type 0 where
  pub a7 : entry 1 (masked true) 0x81 0x80000 (Smc 1) El1 ≡ (1 ∷ 0x10200 ∷ 0x2000000 ∷ 0xF1 ∷ 0x8000 ∷ 0x3C5 ∷ [])
  pub a15 : entry 0 (masked true) 0 0 (Svc 0) El1 ≡ (1 ∷ 0x10400 ∷ 0x56000000 ∷ 0xF1 ∷ 0x8004 ∷ 0x3C1 ∷ [])
  pub a16_hvc : entry 0 (masked true) 0x101 0 (Hvc 1) El2 ≡ (2 ∷ 0x20400 ∷ 0x5A000001 ∷ 0xF2 ∷ 0x8004 ∷ 0x3C1 ∷ [])
  pub a16_smc : entry 0 (masked true) 0x101 0 (Smc 1) El3 ≡ (3 ∷ 0x30400 ∷ 0x5E000001 ∷ 0xF3 ∷ 0x8004 ∷ 0x3C1 ∷ [])
  pub d2 : entry 1 (masked true) 8 0 (data_abort_at 0x80000000 false (first 0x10)) El1 ≡ (1 ∷ 0x10200 ∷ 0x96000010 ∷ 0x80000000 ∷ 0x8000 ∷ 0x3C5 ∷ [])
  pub m12 : entry 1 (masked true) 0 0 (Smc 1) El3 ≡ (3 ∷ 0x30400 ∷ 0x5E000001 ∷ 0xF3 ∷ 0x8004 ∷ 0x3C5 ∷ [])
  pub m16 : entry 1 (masked true) 0 0 (data_abort_at 0 false (first 0x40)) El1 ≡ (1 ∷ 0x10200 ∷ 0x96000040 ∷ 0x0 ∷ 0x8000 ∷ 0x3C5 ∷ [])

-- an IRQ from EL1 to EL2, and an FIQ from EL3 with SP_EL0 to itself: ESR and FAR stay
pub record WorkedInterrupts : Type 0 where
  pub irq : seen El2 (enter_of 1 (masked true) registers El2 0x80 None None 0x8000) ≡ (2 ∷ 0x20480 ∷ 0 ∷ 0xF2 ∷ 0x8000 ∷ 0x3C5 ∷ [])
  pub fiq : seen El3 (enter_of 3 (masked false) registers El3 0x100 None None 0x8000) ≡ (3 ∷ 0x30100 ∷ 0 ∷ 0xF3 ∷ 0x8000 ∷ 0x3CC ∷ [])

-- Exception entry a second time, as tables in numbers, each row computed.

-- WHERE TO

abbrev target : ℕ → ℕ → ℕ → Exception → ℕ
target level scr hcr e = (take_sync level user 0x8000 scr hcr registers e).level

-- The level that an exception is taken to, beside other bits of SCR_EL3 and HCR_EL2: Non-secure EL0 with HCR_EL2.TGE set, and clear, Secure EL0 with it
-- set; and with it set Non-secure EL1, Secure EL1, EL2 and EL3.
abbrev targets : ℕ → ℕ → Exception → List ℕ
targets scr hcr e =
    target 0 (scr + 1) (hcr + 0x800_0000) e
    ∷ target 0 (scr + 1) hcr e
    ∷ target 0 scr (hcr + 0x800_0000) e
    ∷ target 1 (scr + 1) (hcr + 0x800_0000) e
    ∷ target 1 scr (hcr + 0x800_0000) e
    ∷ target 2 (scr + 1) (hcr + 0x800_0000) e
    ∷ target 3 (scr + 1) (hcr + 0x800_0000) e
    ∷ []

-- to EL1, and where TGE counts to EL2
abbrev by_tge : List ℕ
by_tge = 2 ∷ 1 ∷ 1 ∷ 1 ∷ 1 ∷ 2 ∷ 3 ∷ []

-- each kind; HVC with SCR_EL3.HCE<8> set and clear, SMC without and with HCR_EL2.TSC<19>, and with SCR_EL3.SMD<7>
pub record Targets : Type 0 where
  pub undefined : targets 0 0 Undefined ≡ by_tge
  pub svc : (imm : ℕ) → targets 0 0 (Svc imm) ≡ by_tge
  pub brk : (imm : ℕ) → targets 0 0 (Brk imm) ≡ by_tge
  pub data_abort : (addr : ℕ) (write : Bool) (fsc : ℕ) → targets 0 0 (data_abort_at addr write (first fsc)) ≡ by_tge
  pub insn_abort : (addr fsc : ℕ) → targets 0 0 (insn_abort_at addr (first fsc)) ≡ by_tge
  pub pc_alignment : targets 0 0 PcAlignment ≡ by_tge
  pub hvc : (imm : ℕ) → targets 0x100 0 (Hvc imm) ≡ (2 ∷ 2 ∷ 2 ∷ 2 ∷ 1 ∷ 2 ∷ 3 ∷ [])
  pub hvc_undefined : (imm : ℕ) → targets 0 0 (Hvc imm) ≡ by_tge
  pub smc : (imm : ℕ) → targets 0 0 (Smc imm) ≡ (3 ∷ 3 ∷ 3 ∷ 3 ∷ 3 ∷ 3 ∷ 3 ∷ [])
  pub smc_trapped : (imm : ℕ) → targets 0 0x8_0000 (Smc imm) ≡ (3 ∷ 3 ∷ 3 ∷ 2 ∷ 3 ∷ 3 ∷ 3 ∷ [])
  pub smc_undefined : (imm : ℕ) → targets 0x80 0x8_0000 (Smc imm) ≡ by_tge

-- WHAT IS REPORTED

-- an exception at the PC, from EL0 to EL1, EL1 to EL3 and EL2 to EL3, and within EL1, EL2 and EL3
abbrev reports : Exception → ℕ → List (ℕ × Option ℕ)
reports e pc =
    syndrome_of e 0 1 pc
    ∷ syndrome_of e 1 3 pc
    ∷ syndrome_of e 2 3 pc
    ∷ syndrome_of e 1 1 pc
    ∷ syndrome_of e 2 2 pc
    ∷ syndrome_of e 3 3 pc
    ∷ []

-- ESR_ELx from a lower level and from the same, and FAR_ELx where it is written
abbrev reported : ℕ → ℕ → Option ℕ → List (ℕ × Option ℕ)
reported lower same far = (lower, far) ∷ (lower, far) ∷ (lower, far) ∷ (same, far) ∷ (same, far) ∷ (same, far) ∷ []

-- each kind, with every bit of its immediate or status set
pub record Reports (pc addr : ℕ) : Type 0 where
  pub undefined : reports Undefined pc ≡ reported 0x200_0000 0x200_0000 None
  pub svc : reports (Svc 0xFFFF) pc ≡ reported 0x5600_FFFF 0x5600_FFFF None
  pub hvc : reports (Hvc 0xFFFF) pc ≡ reported 0x5A00_FFFF 0x5A00_FFFF None
  pub smc : reports (Smc 0xFFFF) pc ≡ reported 0x5E00_FFFF 0x5E00_FFFF None
  pub insn_abort : reports (insn_abort_at addr (first 0x3F)) pc ≡ reported 0x8200_003F 0x8600_003F (Some addr)
  pub pc_alignment : reports PcAlignment pc ≡ reported 0x8A00_0000 0x8A00_0000 (Some pc)
  pub load : reports (data_abort_at addr false (first 0x3F)) pc ≡ reported 0x9200_003F 0x9600_003F (Some addr)
  pub store : reports (data_abort_at addr true (first 0x3F)) pc ≡ reported 0x9200_007F 0x9600_007F (Some addr)
  pub brk : reports (Brk 0xFFFF) pc ≡ reported 0xF200_FFFF 0xF200_FFFF None

-- WHERE IT CONTINUES

-- the PC after an entry of each kind: synchronous, IRQ, FIQ and SError
abbrev vectors : ℕ → Bool → Regime → List ℕ
vectors level sp target =
    map (λ kind. (enter_of level (masked sp) registers target kind None None 0x8000).pc) (0x000 ∷ 0x080 ∷ 0x100 ∷ 0x180 ∷ [])

abbrev group : ℕ → List ℕ
group n = n ∷ (n + 0x080) ∷ (n + 0x100) ∷ (n + 0x180) ∷ []

-- with SP_EL0 and with SP_ELx to the level itself, and from each lower level, whichever SP it uses
pub record Vectors : Type 0 where
  pub el1_sp_el0 : vectors 1 false El1 ≡ group 0x10000
  pub el2_sp_el0 : vectors 2 false El2 ≡ group 0x20000
  pub el3_sp_el0 : vectors 3 false El3 ≡ group 0x30000
  pub el1_sp_elx : vectors 1 true El1 ≡ group 0x10200
  pub el2_sp_elx : vectors 2 true El2 ≡ group 0x20200
  pub el3_sp_elx : vectors 3 true El3 ≡ group 0x30200
  pub el0_to_el1 : (sp : Bool) → vectors 0 sp El1 ≡ group 0x10400
  pub el0_to_el2 : (sp : Bool) → vectors 0 sp El2 ≡ group 0x20400
  pub el0_to_el3 : (sp : Bool) → vectors 0 sp El3 ≡ group 0x30400
  pub el1_to_el2 : (sp : Bool) → vectors 1 sp El2 ≡ group 0x20400
  pub el1_to_el3 : (sp : Bool) → vectors 1 sp El3 ≡ group 0x30400
  pub el2_to_el3 : (sp : Bool) → vectors 2 sp El3 ≡ group 0x30400

-- PSTATE after an entry: N, Z, C, V as before it, the interrupts masked, and SP_ELx
abbrev entered_flags : Flags → Flags
entered_flags f = flags f.nzcv 0x3C0 true

pub record Masked : Type 0 where
  pub synchronous : (level pc scr hcr : ℕ) (f : Flags) (s : SysRegs) (e : Exception) → (take_sync level f pc scr hcr s e).flags ≡ entered_flags f
  pub any_kind : (level kind ret : ℕ) (f : Flags) (s : SysRegs) (target : Regime) (esr far : Option ℕ)
      → (enter_of level f s target kind esr far ret).flags ≡ entered_flags f

-- SPSR_ELx of PSTATE by its bits: Z and V, D and I at EL2 with SP_ELx, and N and C, A and F at EL1 with SP_EL0
pub record Saved : Type 0 where
  pub one : spsr_of 2 (flags 0x5000_0000 0x280 true) ≡ 0x5000_0289
  pub other : spsr_of 1 (flags 0xA000_0000 0x140 false) ≡ 0xA000_0144
