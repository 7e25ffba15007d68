-- The translation regimes, and the registers kept: where each stands, and what it holds after reset. Letters with a number are rows of
-- docs/DIFFERENCES.md.
use Rattle.std.specs.Prelude.{if◌then◌else◌, Bool, true, false, List, [], ◌∷◌, ℕ, eqb, get_or, Result, Ok, Err}
use Rattle.sysreg.specs.declared.{regs.Control.Control, regs.SysRegs.SysRegs, regs.Register.Register}
use Rattle.sysreg.specs.declared.{regs.Regime.Regime, regs.NoSuchRegime.NoSuchRegime}
use Rattle.sysreg.specs.declared.regs.Regime.TheVariants.{El1, El2, El3}
use Rattle.sysreg.specs.declared.regs.Register.TheVariants.{Sctlr, Tcr, Ttbr0, Ttbr1, Scr, Hcr}
use Rattle.sysreg.specs.declared.regs.Register.TheVariants.{Mair, Vbar, Elr, Spsr, Esr, Far, Vpidr, Vmpidr, Par}

-- the number of a regime, that of the exception level whose registers it uses
abbrev pub index_of : Regime → ℕ
index_of El1 = 1
index_of El2 = 2
index_of El3 = 3

-- the regime of a number
abbrev pub regime_at : ℕ → Result Regime NoSuchRegime
regime_at n = if eqb n 1 then Ok El1 else if eqb n 2 then Ok El2 else if eqb n 3 then Ok El3 else Err (record { 0 = n })

-- the regime of an exception level: EL0 shares that of EL1. M15: v8.0 has no EL2 in Secure state, and so no such regime there. M12: SCR_EL3.RW and
-- HCR_EL2.RW would make it AArch32's
abbrev pub regime_of : ℕ → Regime
regime_of level = if eqb level 2 then El2 else if eqb level 3 then El3 else El1

-- EL2 and EL3 have one privilege level and one range of addresses; EL1&0 has two of each
abbrev pub single_priv : Regime → Bool
single_priv El1 = false
single_priv El2 = true
single_priv El3 = true

-- translation reads the register: it is one of `Control`
abbrev pub in_control : Register → Bool
in_control (Sctlr r) = true
in_control (Tcr r) = true
in_control (Ttbr0 r) = true
in_control Ttbr1 = true
in_control Scr = true
in_control Hcr = true
in_control (Mair r) = false
in_control (Vbar r) = false
in_control (Elr r) = false
in_control (Spsr r) = false
in_control (Esr r) = false
in_control (Far r) = false
in_control Vpidr = false
in_control Vmpidr = false
in_control Par = false

-- what a register of `Control` holds, and one of `SysRegs`
abbrev pub control_at : Control → Register → ℕ
control_at c (Sctlr r) = get_or c.sctlr (index_of r) 0
control_at c (Tcr r) = get_or c.tcr (index_of r) 0
control_at c (Ttbr0 r) = get_or c.ttbr0 (index_of r) 0
control_at c Ttbr1 = c.ttbr1_el1
control_at c Scr = c.scr_el3
control_at c Hcr = c.hcr_el2
control_at c _ = 0

abbrev pub sys_at : SysRegs → Register → ℕ
sys_at s (Mair r) = get_or s.mair (index_of r) 0
sys_at s (Vbar r) = get_or s.vbar (index_of r) 0
sys_at s (Elr r) = get_or s.elr (index_of r) 0
sys_at s (Spsr r) = get_or s.spsr (index_of r) 0
sys_at s (Esr r) = get_or s.esr (index_of r) 0
sys_at s (Far r) = get_or s.far (index_of r) 0
sys_at s Vpidr = s.vpidr_el2
sys_at s Vmpidr = s.vmpidr_el2
sys_at s Par = s.par_el1
sys_at s _ = 0

-- what any register holds
abbrev pub reg_at : Control → SysRegs → Register → ℕ
reg_at c s r = if in_control r then control_at c r else sys_at s r

-- an array of EL0 to EL3, of which EL0's place is never used
abbrev pub levels : ℕ → ℕ → ℕ → List ℕ
levels a b c = 0 ∷ a ∷ b ∷ c ∷ []

-- After reset SCTLR_ELx hold their RES1 bits on a Cortex-A72; what the manual leaves UNKNOWN is 0.
unfoldable pub fresh_control : Control
fresh_control =
    record {
      sctlr = levels 0x30D0_0800 0x30C5_0830 0x30C5_0830;
      tcr = levels 0 0 0;
      ttbr0 = levels 0 0 0;
      ttbr1_el1 = 0;
      scr_el3 = 0;
      hcr_el2 = 0;
    }

-- VPIDR_EL2 and VMPIDR_EL2 are the MIDR and MPIDR of core 0.
unfoldable pub fresh_sys : SysRegs
fresh_sys =
    record {
      mair = levels 0 0 0;
      vbar = levels 0 0 0;
      elr = levels 0 0 0;
      spsr = levels 0 0 0;
      esr = levels 0 0 0;
      far = levels 0 0 0;
      vpidr_el2 = 0x410F_D083;
      vmpidr_el2 = 0x8000_0000;
      par_el1 = 0;
    }
