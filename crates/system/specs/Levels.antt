-- The SYS encodings by mnemonic, a second time: tables that `theorems` promises, each row computed.
use Rattle.std.specs.Prelude.{◌≡◌, ℕ, true, false, List, [], ◌∷◌, map, zero, suc, ◌+◌, ◌*◌, ◌/◌, ◌%◌, ◌^◌}
use Rattle.sysreg.specs.Regs.{levels, fresh_control}
use Rattle.sysreg.specs.declared.regs.Control.{Control}
use Rattle.sysreg.specs.declared.regs.Regime.TheVariants.{El1, El2, El3}
use Rattle.tlb.specs.declared.Inval.{Inval}
use Rattle.tlb.specs.declared.Inval.TheVariants.{All, Page, Asid}
use Rattle.system.specs.Decode.{Name, AT-S1E1R, AT-S1E1W, AT-S1E0R, AT-S1E0W, AT-S1E2R, AT-S1E2W, AT-S12E1R, AT-S12E1W, AT-S12E0R, AT-S12E0W, AT-S1E3R}
use Rattle.system.specs.Decode.{AT-S1E3W, DC-ZVA, DC-CVAC, DC-CVAU, DC-CIVAC, IC-IVAU, DC-IVAC, DC-ISW, DC-CSW, DC-CISW, IC-IALLU, IC-IALLUIS}
use Rattle.system.specs.Decode.{at, named, decode_of}
use Rattle.system.specs.Tlbi.{Instruction, VMALLE1, VAE1, ASIDE1, VAAE1, VALE1, VAALE1, ALLE2, VAE2, ALLE1, VALE2, VMALLS12E1, IPAS2E1, IPAS2LE1}
use Rattle.system.specs.Tlbi.{ALLE3, VAE3, VALE3, unallocated, instructions, instruction_at, tlbi_of}
use Rattle.system.specs.declared.decode.SysOp.{SysOp}
use Rattle.system.specs.declared.decode.SysOp.TheVariants.{Tlbi, Zva, Nothing, Undefined, Unimplemented}

-- what SYS op1, CRn, CRm, op2 is at EL0, EL1, EL2 and EL3
abbrev at_levels : ℕ → ℕ → ℕ → ℕ → List SysOp
at_levels op1 crn crm op2 = decode_of 0 op1 crn crm op2 ∷ decode_of 1 op1 crn crm op2 ∷ decode_of 2 op1 crn crm op2 ∷ decode_of 3 op1 crn crm op2 ∷ []

-- an operation that is done from a level up
abbrev from_el0 : SysOp → List SysOp
from_el0 o = o ∷ o ∷ o ∷ o ∷ []

abbrev from_el1 : SysOp → List SysOp
from_el1 o = Undefined ∷ o ∷ o ∷ o ∷ []

abbrev from_el2 : SysOp → List SysOp
from_el2 o = Undefined ∷ Unimplemented ∷ o ∷ o ∷ []

abbrev from_el3 : SysOp → List SysOp
from_el3 o = Undefined ∷ Unimplemented ∷ Unimplemented ∷ o ∷ []

-- SYS op1, CRn, CRm, op2 by its name, and what it is at each level
abbrev Is : Name → ℕ → ℕ → ℕ → ℕ → List SysOp → Type 0
Is name op1 crn crm op2 what = ((named op1 crn crm op2).name ≡ name) × (at_levels op1 crn crm op2 ≡ what)

pub record Translations : Type 0 where
  pub s1e1r : Is AT-S1E1R 0 7 8 0 (from_el1 (at El1 false false))
  pub s1e1w : Is AT-S1E1W 0 7 8 1 (from_el1 (at El1 false true))
  pub s1e0r : Is AT-S1E0R 0 7 8 2 (from_el1 (at El1 true false))
  pub s1e0w : Is AT-S1E0W 0 7 8 3 (from_el1 (at El1 true true))
  pub s1e2r : Is AT-S1E2R 4 7 8 0 (from_el2 (at El2 false false))
  pub s1e2w : Is AT-S1E2W 4 7 8 1 (from_el2 (at El2 false true))
  pub s12e1r : Is AT-S12E1R 4 7 8 4 (from_el2 (at El1 false false))
  pub s12e1w : Is AT-S12E1W 4 7 8 5 (from_el2 (at El1 false true))
  pub s12e0r : Is AT-S12E0R 4 7 8 6 (from_el2 (at El1 true false))
  pub s12e0w : Is AT-S12E0W 4 7 8 7 (from_el2 (at El1 true true))
  pub s1e3r : Is AT-S1E3R 6 7 8 0 (from_el3 (at El3 false false))
  pub s1e3w : Is AT-S1E3W 6 7 8 1 (from_el3 (at El3 false true))

pub record Maintenance : Type 0 where
  pub zva : Is DC-ZVA 3 7 4 1 (from_el0 Zva)
  pub ivau : Is IC-IVAU 3 7 5 1 (from_el0 Nothing)
  pub cvac : Is DC-CVAC 3 7 10 1 (from_el0 Nothing)
  pub cvau : Is DC-CVAU 3 7 11 1 (from_el0 Nothing)
  pub civac : Is DC-CIVAC 3 7 14 1 (from_el0 Nothing)
  pub ialluis : Is IC-IALLUIS 0 7 1 0 (from_el1 Nothing)
  pub iallu : Is IC-IALLU 0 7 5 0 (from_el1 Nothing)
  pub ivac : Is DC-IVAC 0 7 6 1 (from_el1 Nothing)
  pub isw : Is DC-ISW 0 7 6 2 (from_el1 Nothing)
  pub csw : Is DC-CSW 0 7 10 2 (from_el1 Nothing)
  pub cisw : Is DC-CISW 0 7 14 2 (from_el1 Nothing)

-- All of a CRn and op1 as one number: bit 8 * CRm + op2 is set where the encoding is done at a level. In hexadecimal each CRm has two digits.
abbrev is_done : SysOp → ℕ
is_done Undefined = 0
is_done Unimplemented = 0
is_done _ = 1

-- of the encodings below n, which count up by op2 and then by CRm
abbrev done_below : ℕ → ℕ → ℕ → ℕ → ℕ
done_below zero level op1 crn = 0
done_below (suc n) level op1 crn = done_below n level op1 crn + is_done (decode_of level op1 crn (n / 8) (n % 8)) * 2 ^ n

abbrev done : ℕ → ℕ → ℕ → ℕ
done level op1 crn = done_below 128 level op1 crn

-- op1 from 0 to 7
abbrev done_at : ℕ → ℕ → List ℕ
done_at level crn = map (λ op1. done level op1 crn) (0 ∷ 1 ∷ 2 ∷ 3 ∷ 4 ∷ 5 ∷ 6 ∷ 7 ∷ [])

-- of CRn 7: EL1's has CRm 14, 10, 8, 6, 5, 1; EL0's CRm 14, 11, 10, 5, 4; EL2's and EL3's CRm 8
abbrev el1_done : ℕ
el1_done = 0x0006_0000_0006_000F_0006_0100_0000_0100

abbrev el0_done : ℕ
el0_done = 0x0002_0000_0202_0000_0000_0202_0000_0000

abbrev el2_done : ℕ
el2_done = 0x00F3_0000_0000_0000_0000

abbrev el3_done : ℕ
el3_done = 0x0003_0000_0000_0000_0000

pub record Allocated : Type 0 where
  pub el0 : done_at 0 7 ≡ (0 ∷ 0 ∷ 0 ∷ el0_done ∷ 0 ∷ 0 ∷ 0 ∷ 0 ∷ [])
  pub el1 : done_at 1 7 ≡ (el1_done ∷ 0 ∷ 0 ∷ el0_done ∷ 0 ∷ 0 ∷ 0 ∷ 0 ∷ [])
  pub el2 : done_at 2 7 ≡ (el1_done ∷ 0 ∷ 0 ∷ el0_done ∷ el2_done ∷ 0 ∷ 0 ∷ 0 ∷ [])
  pub el3 : done_at 3 7 ≡ (el1_done ∷ 0 ∷ 0 ∷ el0_done ∷ el2_done ∷ 0 ∷ el3_done ∷ 0 ∷ [])

-- of CRn 8: every CRm and op2
abbrev every_bit : ℕ
every_bit = 0xFFFF_FFFF_FFFF_FFFF_FFFF_FFFF_FFFF_FFFF

pub record Invalidating : Type 0 where
  pub el0 : done_at 0 8 ≡ (0 ∷ 0 ∷ 0 ∷ 0 ∷ 0 ∷ 0 ∷ 0 ∷ 0 ∷ [])
  pub el1 : done_at 1 8 ≡ (every_bit ∷ 0 ∷ 0 ∷ 0 ∷ 0 ∷ 0 ∷ 0 ∷ 0 ∷ [])
  pub el2 : done_at 2 8 ≡ (every_bit ∷ 0 ∷ 0 ∷ 0 ∷ every_bit ∷ 0 ∷ 0 ∷ 0 ∷ [])
  pub el3 : done_at 3 8 ≡ (every_bit ∷ 0 ∷ 0 ∷ 0 ∷ every_bit ∷ 0 ∷ every_bit ∷ 0 ∷ [])

-- WHAT EACH TLBI DROPS

-- the settings of a core with TCR_EL1, TCR_EL2 and TCR_EL3
abbrev pub tcrs : ℕ → ℕ → ℕ → Control
tcrs one two three = record fresh_control { tcr = levels one two three }

-- What TLBI op1, CRm, op2 of one operand drops: with 4 KiB everywhere (TG0<15:14> 0, TG1<31:30> 2); with 64 KiB (TG0 1, TG1 3) in the lower range of
-- EL1&0 alone, in its upper alone, and in both; in EL2 alone; in EL3 alone; and with codes of neither: TCR_EL1.TG1 0 and 1, and 16 KiB (TG0 2) in EL2
-- and EL3. TCR_EL1.AS<36> is set in the first alone.
abbrev drops : ℕ → ℕ → ℕ → List Inval
drops op1 crm op2 =
    tlbi_of (tcrs 0x10_8000_0000 0 0) op1 crm op2 0xABCD_0000_0000_1234
    ∷ tlbi_of (tcrs 0x8000_4000 0 0) op1 crm op2 0xABCD_0000_0000_1234
    ∷ tlbi_of (tcrs 0xC000_0000 0 0) op1 crm op2 0xABCD_0000_0000_1234
    ∷ tlbi_of (tcrs 0xC000_4000 0 0) op1 crm op2 0xABCD_0000_0000_1234
    ∷ tlbi_of (tcrs 0x8000_0000 0x4000 0) op1 crm op2 0xABCD_0000_0000_1234
    ∷ tlbi_of (tcrs 0x8000_0000 0 0x4000) op1 crm op2 0xABCD_0000_0000_1234
    ∷ tlbi_of (tcrs 0 0x8000 0x8000) op1 crm op2 0xABCD_0000_0000_1234
    ∷ tlbi_of (tcrs 0x4000_0000 0x8000 0x8000) op1 crm op2 0xABCD_0000_0000_1234
    ∷ []

-- the operand as a page, and its ASID of 16 and of 8 bits
abbrev page : Inval
page = Page 0xABCD_0000_0000_1234

abbrev everything : List Inval
everything = All ∷ All ∷ All ∷ All ∷ All ∷ All ∷ All ∷ All ∷ []

abbrev by_asid : List Inval
by_asid = Asid 0xABCD ∷ Asid 0xCD ∷ Asid 0xCD ∷ Asid 0xCD ∷ Asid 0xCD ∷ Asid 0xCD ∷ Asid 0xCD ∷ Asid 0xCD ∷ []

-- by address: a page where every range of the regime has 4 KiB
abbrev page_of_el1 : List Inval
page_of_el1 = page ∷ All ∷ All ∷ All ∷ page ∷ page ∷ All ∷ All ∷ []

abbrev page_of_el2 : List Inval
page_of_el2 = page ∷ page ∷ page ∷ page ∷ All ∷ page ∷ All ∷ All ∷ []

abbrev page_of_el3 : List Inval
page_of_el3 = page ∷ page ∷ page ∷ page ∷ page ∷ All ∷ All ∷ All ∷ []

-- TLBI op1, CRm, op2 by its name, what it is at each level, and what it drops
abbrev Form : Instruction → ℕ → ℕ → ℕ → List SysOp → List Inval → Type 0
Form name op1 crm op2 what dropped =
    (instruction_at instructions op1 crm op2 ≡ name) × (at_levels op1 8 crm op2 ≡ what) × (drops op1 crm op2 ≡ dropped)

-- its Inner Shareable form, and the other
abbrev Both : Instruction → ℕ → ℕ → ℕ → ℕ → List SysOp → List Inval → Type 0
Both name op1 shareable local op2 what dropped = Form name op1 shareable op2 what dropped × Form name op1 local op2 what dropped

-- with CRm 3 and 7, and by intermediate physical address with CRm 0 and 4; and three that are not allocated
pub record Drops : Type 0 where
  pub vmalle1 : Both VMALLE1 0 3 7 0 (from_el1 Tlbi) everything
  pub vae1 : Both VAE1 0 3 7 1 (from_el1 Tlbi) page_of_el1
  pub aside1 : Both ASIDE1 0 3 7 2 (from_el1 Tlbi) by_asid
  pub vaae1 : Both VAAE1 0 3 7 3 (from_el1 Tlbi) page_of_el1
  pub vale1 : Both VALE1 0 3 7 5 (from_el1 Tlbi) page_of_el1
  pub vaale1 : Both VAALE1 0 3 7 7 (from_el1 Tlbi) page_of_el1
  pub alle2 : Both ALLE2 4 3 7 0 (from_el2 Tlbi) everything
  pub vae2 : Both VAE2 4 3 7 1 (from_el2 Tlbi) page_of_el2
  pub alle1 : Both ALLE1 4 3 7 4 (from_el2 Tlbi) everything
  pub vale2 : Both VALE2 4 3 7 5 (from_el2 Tlbi) page_of_el2
  pub vmalls12e1 : Both VMALLS12E1 4 3 7 6 (from_el2 Tlbi) everything
  pub ipas2e1 : Both IPAS2E1 4 0 4 1 (from_el2 Tlbi) everything
  pub ipas2le1 : Both IPAS2LE1 4 0 4 5 (from_el2 Tlbi) everything
  pub alle3 : Both ALLE3 6 3 7 0 (from_el3 Tlbi) everything
  pub vae3 : Both VAE3 6 3 7 1 (from_el3 Tlbi) page_of_el3
  pub vale3 : Both VALE3 6 3 7 5 (from_el3 Tlbi) page_of_el3
  pub el1_op2_4 : Both unallocated 0 3 7 4 (from_el1 Tlbi) everything
  pub el1_op2_6 : Both unallocated 0 3 7 6 (from_el1 Tlbi) everything
  pub el3_op2_4 : Both unallocated 6 3 7 4 (from_el3 Tlbi) everything
