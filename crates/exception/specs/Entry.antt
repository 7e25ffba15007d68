-- Exception entry to AArch64: DDI 0487, AArch64.TakeException, from knowledge of ARMv8.0: the document itself was not at hand. M12 is a row of
-- docs/DIFFERENCES.md.
use Rattle.std.specs.Prelude.{if◌then◌else◌, ℕ, ◌+◌, ◌%◌, ◌^◌, Bool, true, false, List, ◌==◌, Option, Some, None}
use Rattle.word.specs.Bits.{wrap}
use Rattle.sysreg.specs.Regs.{index_of, sys_at}
use Rattle.sysreg.specs.Write.{bank}
use Rattle.sysreg.specs.declared.{regs.Regime.Regime, regs.Register.Register, regs.SysRegs.SysRegs}
use Rattle.sysreg.specs.declared.regs.Register.TheVariants.{Sctlr, Tcr, Ttbr0, Ttbr1, Scr, Hcr}
use Rattle.sysreg.specs.declared.regs.Register.TheVariants.{Mair, Vbar, Elr, Spsr, Esr, Far, Vpidr, Vmpidr, Par}
use Rattle.exception.specs.declared.{kind.Exception.Exception, flags.Flags.Flags, route.Origin.Origin, route.Routed.Routed}
use Rattle.exception.specs.Pstate.{daif_all, flags, spsr_of}
use Rattle.exception.specs.Syndrome.{syndrome_of}
use Rattle.exception.specs.Route.{routed_to}

-- vect_offset of a synchronous exception: 0x400 from a lower level; else 0x200 with SP_ELx and 0x000 with SP_EL0. M12: never 0x600, as a lower
-- level is AArch64 whatever SCR_EL3.RW and HCR_EL2.RW hold.
abbrev pub vect_offset : ℕ → ℕ → Bool → ℕ
vect_offset from to sp = if from == to then if sp then 0x200 else 0x000 else 0x400

abbrev pub is_target : Regime → Regime → Bool
is_target target r = index_of r == index_of target

-- v at the target level, and at the others what they hold
abbrev pub at_target : Regime → ℕ → List ℕ → List ℕ
at_target target v l = bank (λ r held. if is_target target r then v else held) l

-- where a value is given
abbrev pub updated : Regime → Option ℕ → List ℕ → List ℕ
updated target (Some v) l = at_target target v l
updated target None l = l

-- SPSR and ELR of the target level, its ESR and FAR where they are given, and no other register
unfoldable pub entered_sys : SysRegs → Regime → Option ℕ → Option ℕ → ℕ → ℕ → SysRegs
entered_sys s target esr far spsr ret =
    record s {
      elr = at_target target ret s.elr;
      spsr = at_target target spsr s.spsr;
      esr = updated target esr s.esr;
      far = updated target far s.far;
    }

-- of one register: the value that is given, where it is the target's; else what it held
abbrev pub given : Option ℕ → Bool → ℕ → ℕ
given (Some v) same held = if same then v else held
given None same held = held

-- register by register: what one holds after an entry, from what it held
abbrev pub register_after : Regime → Option ℕ → Option ℕ → ℕ → ℕ → Register → ℕ → ℕ
register_after target esr far spsr ret (Spsr r) held = if is_target target r then spsr else held
register_after target esr far spsr ret (Elr r) held = if is_target target r then ret else held
register_after target esr far spsr ret (Esr r) held = given esr (is_target target r) held
register_after target esr far spsr ret (Far r) held = given far (is_target target r) held
register_after target esr far spsr ret (Mair r) held = held
register_after target esr far spsr ret (Vbar r) held = held
register_after target esr far spsr ret Vpidr held = held
register_after target esr far spsr ret Vmpidr held = held
register_after target esr far spsr ret Par held = held
register_after target esr far spsr ret (Sctlr r) held = held
register_after target esr far spsr ret (Tcr r) held = held
register_after target esr far spsr ret (Ttbr0 r) held = held
register_after target esr far spsr ret Ttbr1 held = held
register_after target esr far spsr ret Scr held = held
register_after target esr far spsr ret Hcr held = held

-- the registers that an entry may change: SPSR, ELR, ESR and FAR of its target
abbrev pub of_entry : Regime → Register → Bool
of_entry target (Spsr r) = is_target target r
of_entry target (Elr r) = is_target target r
of_entry target (Esr r) = is_target target r
of_entry target (Far r) = is_target target r
of_entry target (Mair r) = false
of_entry target (Vbar r) = false
of_entry target Vpidr = false
of_entry target Vmpidr = false
of_entry target Par = false
of_entry target (Sctlr r) = false
of_entry target (Tcr r) = false
of_entry target (Ttbr0 r) = false
of_entry target Ttbr1 = false
of_entry target Scr = false
of_entry target Hcr = false

-- PSTATE.SP = '1', PSTATE.<D,A,I,F> = '1111'; N, Z, C, V stay
abbrev pub entry_flags : Flags → Flags
entry_flags f = flags f.nzcv daif_all true

-- what an entry leaves
pub record Entered : Type 0 where
  pub level : ℕ
  pub flags : Flags
  pub pc : ℕ
  pub sys : SysRegs

-- An entry of any kind, which is added to the offset (0x000 for a synchronous exception, 0x080 for an IRQ, 0x100 for an FIQ): PSTATE.EL = target_el,
-- and the branch to VBAR_ELx plus the offset. ESR and FAR are written, or kept as an interrupt keeps both.
unfoldable pub enter_of : ℕ → Flags → SysRegs → Regime → ℕ → Option ℕ → Option ℕ → ℕ → Entered
enter_of level f s target kind esr far ret =
    record {
      level = index_of target;
      flags = entry_flags f;
      pc = wrap (sys_at s (Vbar target) + vect_offset level (index_of target) f.spsel + kind);
      sys = entered_sys s target esr far (spsr_of level f) ret;
    }

-- PSTATE.EL has two bits: a level above 3 counts by those
abbrev pub origin_of : ℕ → ℕ → ℕ → ℕ → Origin
origin_of level pc scr hcr = record { level = level % 2 ^ 2; scr_el3 = scr; hcr_el2 = hcr; pc = pc }

-- what a routed exception reports
abbrev pub report_of : ℕ → ℕ → Routed → ℕ × Option ℕ
report_of level pc r = syndrome_of r.exception level (index_of r.target) pc

-- it is taken, as its report has it
abbrev pub take_routed : ℕ → Flags → ℕ → SysRegs → Routed → Entered
take_routed level f pc s r = enter_of level f s r.target 0 (Some (report_of level pc r).0) (report_of level pc r).1 r.ret

unfoldable pub take_sync : ℕ → Flags → ℕ → ℕ → ℕ → SysRegs → Exception → Entered
take_sync level f pc scr hcr s e = take_routed (level % 2 ^ 2) f pc s (routed_to (origin_of level pc scr hcr) e)

-- a fact of every synchronous exception: where it is taken to, ESR and FAR, SPSR and the return address, and the registers before and after
abbrev pub EachEntry : (Regime → ℕ → Option ℕ → ℕ → ℕ → SysRegs → SysRegs → Type 0) → Type 0
EachEntry P =
    (level pc scr hcr : ℕ) (f : Flags) (s : SysRegs) (e : Exception)
    → let r = routed_to (origin_of level pc scr hcr) e in
    P r.target (report_of (level % 2 ^ 2) pc r).0 (report_of (level % 2 ^ 2) pc r).1 (spsr_of (level % 2 ^ 2) f) r.ret s (take_sync level f pc scr hcr s e).sys
