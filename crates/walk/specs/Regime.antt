-- The registers of a translation regime, and what turns stage 1 on: DDI 0487, S1TranslationRegime and AArch64.FirstStageTranslate of ARMv8.0. Written from
-- knowledge of them; the document itself was not at hand. Letters with a number are rows of docs/DIFFERENCES.md. A `Bank` holds the registers of one
-- regime.
use Rattle.std.specs.Prelude.{Bool, not, ◌&&◌, ◌||◌, if◌then◌else◌, ℕ, ◌+◌, ◌-◌, ◌*◌, ◌/◌, ◌%◌, ◌^◌, zero, suc, min}
use Rattle.word.specs.Bits.{bit_on, bit0}
use Rattle.sysreg.specs.Regs.{control_at}
use Rattle.sysreg.specs.declared.{regs.Control.Control, regs.Regime.Regime}
use Rattle.sysreg.specs.declared.regs.Register.TheVariants.{Sctlr, Tcr, Ttbr0, Ttbr1, Scr, Hcr}
use Rattle.sysreg.specs.declared.regs.Regime.TheVariants.{El1, El2, El3}
use Rattle.sysreg.specs.Shape.{tbi0, tbi1}
use Rattle.walk.specs.declared.{regime.Bank.Bank}
use Rattle.sysreg.specs.Shape as fields

-- SCTLR, TCR and TTBR0 of the regime's own level; TTBR1_EL1, SCR_EL3 and HCR_EL2
abbrev pub bank_of : Control → Regime → Bank
bank_of c r =
    record {
      sctlr = control_at c (Sctlr r);
      tcr = control_at c (Tcr r);
      ttbr0 = control_at c (Ttbr0 r);
      ttbr1_el1 = control_at c Ttbr1;
      scr_el3 = control_at c Scr;
      hcr_el2 = control_at c Hcr;
    }

-- SCTLR_ELx.M and SCTLR_ELx.WXN
abbrev pub mmu_on : Bank → Bool
mmu_on s = bit0 s.sctlr

abbrev pub wxn_of : Bank → Bool
wxn_of s = bit_on s.sctlr 19

-- SCR_EL3.NS, HCR_EL2.TGE and HCR_EL2.DC
abbrev pub non_secure : Bank → Bool
non_secure s = bit0 s.scr_el3

abbrev pub tge : Bank → Bool
tge s = bit_on s.hcr_el2 27

abbrev pub dc : Bank → Bool
dc s = bit_on s.hcr_el2 12

-- stage 1 is on by SCTLR_ELx.M; in Non-secure state TGE and DC turn that of EL1&0 off. M3, M4: HCR_EL2.VM, and DC, would turn stage 2 on there
abbrev pub stage1_on : Bank → Regime → Bool
stage1_on s El1 = mmu_on s && not (non_secure s && (tge s || dc s))
stage1_on s El2 = mmu_on s
stage1_on s El3 = mmu_on s

-- Tagged addresses, top byte ignore: DDI 0487, AddrTop of ARMv8.0. Written from knowledge of it; the document itself was not at hand.
-- AddrTop is 55 for an address whose tag is ignored, and 63 for another, and the walk reads nothing above it. Here the tag is replaced by what
-- keeps the address in its range, so the walk may read up to bit 63.

-- TCR_EL1.TBI0 for the lower range, TCR_EL1.TBI1 for the upper one, of fetches too; TCR_ELx.TBI in EL2 and EL3
abbrev pub tbi : ℕ → Regime → ℕ → Bool
tbi tcr El1 va = if bit_on va 55 then tbi1 tcr else tbi0 tcr
tbi tcr El2 va = fields.tbi tcr
tbi tcr El3 va = fields.tbi tcr

-- SignExtend(va<55:0>, 64): bit 55 is copied to bits 63 to 56
abbrev pub sign_extend56 : ℕ → ℕ
sign_extend56 va = va % 2 ^ 56 + va / 2 ^ 55 % 2 * (2 ^ 64 - 2 ^ 56)

-- the address without its tag: bit 55 stands for the top byte in EL1&0, zero does in EL2 and EL3
abbrev pub tag_dropped : Regime → ℕ → ℕ
tag_dropped El1 va = sign_extend56 va
tag_dropped El2 va = va % 2 ^ 56
tag_dropped El3 va = va % 2 ^ 56

-- an address as the walk sees it. A14 (docs/DIFFERENCES.md): a branch would drop the tag from the PC, so no fetch, and no fault of one, would have it
unfoldable pub untagged : ℕ → Regime → ℕ → ℕ
untagged tcr r va = if tbi tcr r va then tag_dropped r va else va

-- The output address size: DDI 0487, TCR_EL1.IPS and TCR_ELx.PS as AArch64.TranslationTableWalk of ARMv8.0 reads them, and what the A72 implements.
-- Written from knowledge of them; the document itself was not at hand.

-- the number of bits that a code names; O2 (docs/DIFFERENCES.md): the reserved codes above 5 count as 5
abbrev pub ps_bits : ℕ → ℕ
ps_bits zero = 32
ps_bits (suc zero) = 36
ps_bits (suc (suc zero)) = 40
ps_bits (suc (suc (suc zero))) = 42
ps_bits (suc (suc (suc (suc zero)))) = 44
ps_bits (suc (suc (suc (suc (suc n))))) = 48

-- ID_AA64MMFR0_EL1.PARange of the A72
abbrev pub pa_max : ℕ
pa_max = 44

-- never more than the implemented size. O2: so codes 5 to 7 are 44 bits
unfoldable pub pa_size : ℕ → ℕ
pa_size code = min (ps_bits code) pa_max

-- the same without a table: the smallest of 32 plus four times the code, 36 plus twice it, and the implemented size
abbrev pub size_formula : ℕ → ℕ
size_formula code = min (32 + 4 * code) (min (36 + 2 * code) pa_max)
