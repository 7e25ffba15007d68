-- System operations by the manual's names: the SYS encodings of an A72 and who may use each (DDI 0487, C5.3 to C5.5,
-- from knowledge of ARMv8.0: the document itself was not at hand). A1, M6 and the like are rows of docs/DIFFERENCES.md,
-- each at the line where the manual has something else.
use Rattle.std.specs.Prelude.{if◌then◌else◌, ◌≡◌, ◌⊎◌, Bool, true, false, ◌&&◌, List, [], ◌∷◌, ◌++◌, ℕ, ◌==◌, leb}
use Rattle.sysreg.specs.declared.regs.Regime.{Regime}
use Rattle.sysreg.specs.declared.regs.Regime.TheVariants.{El1, El2, El3}
use Rattle.system.specs.declared.decode.SysOp.{SysOp}
use Rattle.system.specs.declared.decode.SysOp.TheVariants.{At, Tlbi, Zva, Nothing, Undefined, Unimplemented}

pub data Name : Type 0 where
  AT-S1E1R AT-S1E1W AT-S1E0R AT-S1E0W : Name
  AT-S1E2R AT-S1E2W AT-S12E1R AT-S12E1W AT-S12E0R AT-S12E0W : Name
  AT-S1E3R AT-S1E3W : Name
  DC-ZVA DC-CVAC DC-CVAU DC-CIVAC IC-IVAU : Name
  DC-IVAC DC-ISW DC-CSW DC-CISW IC-IALLU IC-IALLUIS : Name
  TLBI : Name
  unallocated accepted : Name

-- a translation: its regime, whether as EL0, and whether for a write
abbrev pub at : Regime → Bool → Bool → SysOp
at r user write = At (record { regime = r; user = user; write = write })

-- What each is here. M3: there is no stage 2, so S12 is S1. M6: cache maintenance does nothing, and by address
-- translates nothing.
abbrev pub operation : Name → SysOp
operation AT-S1E1R = at El1 false false
operation AT-S1E1W = at El1 false true
operation AT-S1E0R = at El1 true false
operation AT-S1E0W = at El1 true true
operation AT-S1E2R = at El2 false false
operation AT-S1E2W = at El2 false true
operation AT-S12E1R = at El1 false false
operation AT-S12E1W = at El1 false true
operation AT-S12E0R = at El1 true false
operation AT-S12E0W = at El1 true true
operation AT-S1E3R = at El3 false false
operation AT-S1E3W = at El3 false true
operation DC-ZVA = Zva
operation TLBI = Tlbi
-- M11: UNDEFINED in the manual
operation unallocated = Unimplemented
-- the other DC and IC; M19: and what is accepted beside them, UNDEFINED in the manual
operation _ = Nothing

-- a field of an encoding: one number, or every number
pub data Field : Type 0 where
  only : ℕ → Field
  any : Field

-- an operation, its encoding, and the lowest level that has it
pub record Row : Type 0 where
  pub name : Name
  pub op1 : ℕ
  pub crn : ℕ
  pub crm : Field
  pub op2 : Field
  pub lowest : ℕ

abbrev pub row : Name → ℕ → ℕ → ℕ → ℕ → ℕ → Row
row n a b c d l = record { name = n; op1 = a; crn = b; crm = only c; op2 = only d; lowest = l }

abbrev pub block : Name → ℕ → ℕ → ℕ → Row
block n a b l = record { name = n; op1 = a; crn = b; crm = any; op2 = any; lowest = l }

-- op1 3. A11: SCTLR_EL1.DZE traps no DC ZVA of EL0. M21: under the mark its stores are judged by EL0's rights. A12:
-- SCTLR_EL1.UCI traps none of the others. M7: nor does HCR_EL2 at EL1 and EL0.
abbrev of_el0 : List Row
of_el0 =
    row DC-ZVA 3 7 4 1 0 ∷ row IC-IVAU 3 7 5 1 0 ∷ row DC-CVAC 3 7 10 1 0 ∷ row DC-CVAU 3 7 11 1 0 ∷ row DC-CIVAC 3 7 14 1 0 ∷ []

-- op1 0. M7: HCR_EL2 traps none of them.
abbrev of_el1 : List Row
of_el1 =
    row IC-IALLUIS 0 7 1 0 1
    ∷ row IC-IALLU 0 7 5 0 1
    ∷ row DC-IVAC 0 7 6 1 1
    ∷ row DC-ISW 0 7 6 2 1
    ∷ row DC-CSW 0 7 10 2 1
    ∷ row DC-CISW 0 7 14 2 1
    ∷ row AT-S1E1R 0 7 8 0 1
    ∷ row AT-S1E1W 0 7 8 1 1
    ∷ row AT-S1E0R 0 7 8 2 1
    ∷ row AT-S1E0W 0 7 8 3 1
    ∷ []

-- op1 4. A2: AT S1E2R and S1E2W are not UNDEFINED at EL3 with SCR_EL3.NS clear.
abbrev of_el2 : List Row
of_el2 =
    row AT-S1E2R 4 7 8 0 2
    ∷ row AT-S1E2W 4 7 8 1 2
    ∷ row AT-S12E1R 4 7 8 4 2
    ∷ row AT-S12E1W 4 7 8 5 2
    ∷ row AT-S12E0R 4 7 8 6 2
    ∷ row AT-S12E0W 4 7 8 7 2
    ∷ []

-- op1 6
abbrev of_el3 : List Row
of_el3 = row AT-S1E3R 6 7 8 0 3 ∷ row AT-S1E3W 6 7 8 1 3 ∷ []

-- CRn 8; op1 says whose entries, and Tlbi.antt has CRm and op2. M9: one that is not allocated counts as one. M10: those
-- of EL2 are not UNDEFINED at EL3 with SCR_EL3.NS clear.
abbrev invalidations : List Row
invalidations = block TLBI 0 8 1 ∷ block TLBI 4 8 2 ∷ block TLBI 6 8 3 ∷ []

-- M19: not allocated, and accepted beside DC CSW and DC CISW
abbrev besides : List Row
besides = row accepted 0 7 10 1 1 ∷ row accepted 0 7 14 1 1 ∷ []

abbrev pub table : List Row
table = of_el0 ++ of_el1 ++ of_el2 ++ of_el3 ++ invalidations ++ besides

-- any other encoding
abbrev pub absent : Row
absent = block unallocated 0 0 1

abbrev pub holds : Field → ℕ → Bool
holds (only n) x = x == n
holds any x = true

abbrev pub encodes : Row → ℕ → ℕ → ℕ → ℕ → Bool
encodes r op1 crn crm op2 = op1 == r.op1 && (crn == r.crn && (holds r.crm crm && holds r.op2 op2))

abbrev pub look_up : List Row → ℕ → ℕ → ℕ → ℕ → Row
look_up [] op1 crn crm op2 = absent
look_up (r ∷ rs) op1 crn crm op2 = if encodes r op1 crn crm op2 then r else look_up rs op1 crn crm op2

-- the row of an encoding
unfoldable pub named : ℕ → ℕ → ℕ → ℕ → Row
named op1 crn crm op2 = look_up table op1 crn crm op2

-- what a level lacks: UNDEFINED at EL0. A9: at a higher level too in the manual, and Unimplemented here.
abbrev pub refusal : ℕ → SysOp
refusal level = if level == 0 then Undefined else Unimplemented

abbrev pub ruled : ℕ → Row → SysOp
ruled level r = if leb r.lowest level then operation r.name else refusal level

unfoldable pub decode_of : ℕ → ℕ → ℕ → ℕ → ℕ → SysOp
decode_of level op1 crn crm op2 = ruled level (named op1 crn crm op2)

-- WHAT THE THEOREMS SAY OF THE TABLE

-- a TLBI that is not refused has CRn 8 and op1 0, 4 or 6
pub record TlbiFields (op1 crn : ℕ) : Type 0 where
  pub crn-8 : crn ≡ 8
  pub whose : (op1 ≡ 0) ⊎ ((op1 ≡ 4) ⊎ (op1 ≡ 6))

-- the number of a field, and 0 for any
abbrev pub number : Field → ℕ
number (only n) = n
number any = 0
