-- What each TLBI invalidates, by the manual's names: the TLB maintenance instructions of an A72 (DDI 0487, C5.5, from
-- knowledge of ARMv8.0: the document itself was not at hand). CRn is 8. M3, M20 and the like are rows of
-- docs/DIFFERENCES.md.
use Rattle.std.specs.Prelude.{if◌then◌else◌, Bool, true, false, ◌&&◌, List, [], ◌∷◌, ◌++◌, ℕ, ◌==◌}
use Rattle.word.specs.Bits.{field}
use Rattle.sysreg.specs.Regs.{control_at}
use Rattle.sysreg.specs.Shape.{tg0, tg1, «as»}
use Rattle.sysreg.specs.declared.regs.Control.{Control}
use Rattle.sysreg.specs.declared.regs.Register.TheVariants.{Tcr}
use Rattle.sysreg.specs.declared.regs.Regime.{Regime}
use Rattle.sysreg.specs.declared.regs.Regime.TheVariants.{El1, El2, El3}
use Rattle.tlb.specs.declared.Inval.{Inval}
use Rattle.tlb.specs.declared.Inval.TheVariants.{All, Page, Asid}

-- each name stands for two instructions, of which one has IS at its end
pub data Instruction : Type 0 where
  VMALLE1 VAE1 ASIDE1 VAAE1 VALE1 VAALE1 : Instruction
  ALLE2 VAE2 ALLE1 VALE2 VMALLS12E1 IPAS2E1 IPAS2LE1 : Instruction
  ALLE3 VAE3 VALE3 : Instruction
  unallocated : Instruction

-- what is named: everything, the operand's virtual address in a regime, or the operand's ASID
pub data Scope : Type 0 where
  everything asid_form : Scope
  ranged : Regime → Scope

-- What each names here, which is at least what the manual has it name: an address in every ASID and at every level
-- (VAA, VAL and VAAL are VA), and everything for what names a regime or a stage. M20: IPAS2E1 and IPAS2LE1 name an
-- intermediate physical address of stage 2, which is not there (M3); they too drop everything, and so does what is not
-- allocated (M9: UNDEFINED in the manual).
abbrev pub scope : Instruction → Scope
scope VAE1 = ranged El1
scope ASIDE1 = asid_form
scope VAAE1 = ranged El1
scope VALE1 = ranged El1
scope VAALE1 = ranged El1
scope VAE2 = ranged El2
scope VALE2 = ranged El2
scope VAE3 = ranged El3
scope VALE3 = ranged El3
scope _ = everything

pub record TlbiForm : Type 0 where
  pub name : Instruction
  pub shareable : Bool
  pub op1 : ℕ
  pub crm : ℕ
  pub op2 : ℕ

abbrev encoding : Instruction → Bool → ℕ → ℕ → ℕ → TlbiForm
encoding n i a b c = record { name = n; shareable = i; op1 = a; crm = b; op2 = c }

-- the Inner Shareable form has CRm 3, the other CRm 7
abbrev forms : Instruction → ℕ → ℕ → List TlbiForm
forms n op1 op2 = encoding n true op1 3 op2 ∷ encoding n false op1 7 op2 ∷ []

abbrev pub stage1 : List TlbiForm
stage1 =
    forms VMALLE1 0 0
    ++ forms VAE1 0 1
    ++ forms ASIDE1 0 2
    ++ forms VAAE1 0 3
    ++ forms VALE1 0 5
    ++ forms VAALE1 0 7
    ++ forms ALLE2 4 0
    ++ forms VAE2 4 1
    ++ forms ALLE1 4 4
    ++ forms VALE2 4 5
    ++ forms VMALLS12E1 4 6
    ++ forms ALLE3 6 0
    ++ forms VAE3 6 1
    ++ forms VALE3 6 5

-- here the Inner Shareable form has CRm 0, the other CRm 4
abbrev pub by_ipa : List TlbiForm
by_ipa =
    encoding IPAS2E1 true 4 0 1 ∷ encoding IPAS2LE1 true 4 0 5 ∷ encoding IPAS2E1 false 4 4 1 ∷ encoding IPAS2LE1 false 4 4 5 ∷ []

abbrev pub instructions : List TlbiForm
instructions = stage1 ++ by_ipa

-- the instruction of an encoding
abbrev pub instruction_at : List TlbiForm → ℕ → ℕ → ℕ → Instruction
instruction_at [] op1 crm op2 = unallocated
instruction_at (r ∷ rs) op1 crm op2 =
    if op1 == r.op1 && (crm == r.crm && op2 == r.op2) then r.name else instruction_at rs op1 crm op2

unfoldable pub scope_of : ℕ → ℕ → ℕ → Scope
scope_of op1 crm op2 = scope (instruction_at instructions op1 crm op2)

abbrev pub tcr_of : Control → Regime → ℕ
tcr_of c r = control_at c (Tcr r)

-- pages of 4 KiB: TCR_ELx.TG0 is '00', and in the EL1&0 regime TCR_EL1.TG1 is '10'
abbrev pub pages4k : ℕ → Regime → Bool
pages4k tcr El1 = tg0 tcr == 0b00 && tg1 tcr == 0b10
pages4k tcr El2 = tg0 tcr == 0b00
pages4k tcr El3 = tg0 tcr == 0b00

-- TCR_EL1.AS: an ASID has 16 bits, and not 8
abbrev pub asid_bits : Control → ℕ
asid_bits c = if «as» (tcr_of c El1) then 16 else 8

-- More may be dropped than is named. An address that need not be of a 4 KiB page drops everything; one that is keeps
-- all 64 bits of the operand. O13: of a narrow ASID the operand's upper eight bits are masked.
unfoldable pub what_of : Control → ℕ → Scope → Inval
what_of c x everything = All
what_of c x (ranged r) = if pages4k (tcr_of c r) r then Page x else All
what_of c x asid_form = Asid (field x 48 (asid_bits c))

unfoldable pub tlbi_of : Control → ℕ → ℕ → ℕ → ℕ → Inval
tlbi_of c op1 crm op2 x = what_of c x (scope_of op1 crm op2)

-- CRm 3 reaches the other cores. M8: HCR_EL2.FB makes no other form do so. M20: nor do IPAS2E1IS and IPAS2LE1IS, which
-- have CRm 0.
abbrev pub reaches_others : ℕ → Bool
reaches_others crm = crm == 3
