-- The registers in rows, and settings for rows that are computed: what the numbers of `theorems` are said of.
use Rattle.std.specs.Prelude.{Bool, List, [], ◌∷◌, ◌++◌, ℕ}
use Rattle.sysreg.specs.declared.{regs.Control.Control, regs.Register.Register}
use Rattle.sysreg.specs.declared.regs.Register.TheVariants.{Sctlr, Tcr, Ttbr0, Ttbr1, Scr, Hcr}
use Rattle.sysreg.specs.declared.regs.Register.TheVariants.{Mair, Vbar, Elr, Spsr, Esr, Far, Vpidr, Vmpidr, Par}
use Rattle.sysreg.specs.Regs.{levels, fresh_control}
use Rattle.sysreg.specs.Encoding.{at_each}
use Rattle.sysreg.specs.Shape.{same_shape}
use Rattle.sysreg.specs.Write.{control_with}

-- the registers of `Control`, in three rows of EL1, EL2 and EL3 and a last one
abbrev pub control_registers : List Register
control_registers = at_each Sctlr ++ at_each Tcr ++ at_each Ttbr0 ++ (Ttbr1 ∷ Scr ∷ Hcr ∷ [])

-- the other registers, in six rows of EL1, EL2 and EL3 and a last one
abbrev pub system_registers : List Register
system_registers =
    at_each Mair ++ at_each Vbar ++ at_each Elr ++ at_each Spsr ++ at_each Esr ++ at_each Far ++ (Vpidr ∷ Vmpidr ∷ Par ∷ [])

-- out of reset, a write of v to the register leaves the shape as it was
abbrev pub keeps_fresh_shape : ℕ → Register → Bool
keeps_fresh_shape v r = same_shape fresh_control (control_with fresh_control r v)

-- TCR_EL1 of any value, with an ASID of 0x1122 in TTBR0_EL1 and of 0x3344 in TTBR1_EL1; other registers hold other bits
abbrev pub asids_under : ℕ → Control
asids_under tcr =
    record {
      sctlr = levels 0 0 0;
      tcr = levels tcr 0 0;
      ttbr0 = levels 0x1122_0000_4000_0000 0x5566_0000_4000_0000 0x7788_0000_4000_0000;
      ttbr1_el1 = 0x3344_0000_8000_0000;
      scr_el3 = 0;
      hcr_el2 = 0;
    }
