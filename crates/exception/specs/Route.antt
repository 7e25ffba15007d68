-- Routing of synchronous exceptions: DDI 0487, D1.10, and the pseudocode of SVC, HVC and SMC, from knowledge of ARMv8.0: the document itself was
-- not at hand. A7, D2 and the like are rows of docs/DIFFERENCES.md.
use Rattle.std.specs.Prelude.{if◌then◌else◌, ℕ, ◌+◌, Bool, not, ◌&&◌, ◌||◌, ◌==◌}
use Rattle.word.specs.Bits.{bit_on, bit0, wrap}
use Rattle.sysreg.specs.Regs.{regime_of}
use Rattle.sysreg.specs.declared.regs.Regime.{Regime}
use Rattle.sysreg.specs.declared.regs.Regime.TheVariants.{El2, El3}
use Rattle.exception.specs.declared.{kind.Exception.Exception, route.Origin.Origin, route.Routed.Routed}
use Rattle.exception.specs.declared.kind.Exception.TheVariants.{Undefined, Svc, Hvc, Smc, Brk, DataAbort, InsnAbort, PcAlignment}

-- SCR_EL3.NS, SMD and HCE; HCR_EL2.TSC and TGE
abbrev pub ns : Origin → Bool
ns o = bit0 o.scr_el3

abbrev pub smd : Origin → Bool
smd o = bit_on o.scr_el3 7

abbrev pub hce : Origin → Bool
hce o = bit_on o.scr_el3 8

abbrev pub tsc : Origin → Bool
tsc o = bit_on o.hcr_el2 19

abbrev pub tge : Origin → Bool
tge o = bit_on o.hcr_el2 27

-- IsSecure()
abbrev pub is_secure : Origin → Bool
is_secure o = o.level == 3 || not (ns o)

-- The level itself, and EL1 for EL0. TGE takes the exceptions of Non-secure EL0 to EL2. M18: the manual has no Non-secure EL1 while TGE is set; where a level is set so
-- here, its exceptions stay at EL1.
abbrev pub route_to_el2 : Origin → Bool
route_to_el2 o = o.level == 0 && (not (is_secure o) && tge o)

-- D2: SCR_EL3.EA takes no external abort to EL3. O11: an external abort is synchronous, a store's too.
abbrev pub default_target : Origin → Regime
default_target o = if route_to_el2 o then El2 else regime_of o.level

-- HVC is UNDEFINED where HCE is clear, and at Secure EL1. A16: not at EL0, where the manual has it so.
abbrev pub hvc_undefined : Origin → Bool
hvc_undefined o = not (hce o) || (o.level == 1 && is_secure o)

-- TSC traps SMC at Non-secure EL1 to EL2
abbrev pub smc_trapped : Origin → Bool
smc_trapped o = o.level == 1 && (not (is_secure o) && tsc o)

-- SMC is UNDEFINED where SMD is set. A7: also where TSC would trap it. A16: not at EL0, where the manual has it so.
abbrev pub smc_undefined : Origin → Bool
smc_undefined o = smd o

-- the exception that the instruction generates
abbrev pub generated : Origin → Exception → Exception
generated o (Hvc imm) = if hvc_undefined o then Undefined else Hvc imm
generated o (Smc imm) = if smc_undefined o then Undefined else Smc imm
generated o e = e

-- target_el: HVC goes to EL2, and at EL3 to itself
abbrev pub target_el : Origin → Exception → Regime
target_el o (Hvc imm) = if o.level == 3 then El3 else El2
target_el o (Smc imm) = if smc_trapped o then El2 else El3
target_el o Undefined = default_target o
target_el o (Svc imm) = default_target o
target_el o (Brk imm) = default_target o
target_el o (DataAbort a) = default_target o
target_el o (InsnAbort a) = default_target o
target_el o PcAlignment = default_target o

-- NextInstrAddr()
abbrev next_instr : Origin → ℕ
next_instr o = wrap (o.pc + 4)

-- preferred_exception_return: past a call that is taken as one, else the instruction itself, ThisInstrAddr()
abbrev pub return_address : Origin → Exception → ℕ
return_address o (Svc imm) = next_instr o
return_address o (Hvc imm) = next_instr o
return_address o (Smc imm) = if smc_trapped o then o.pc else next_instr o
return_address o _ = o.pc

unfoldable pub routed_to : Origin → Exception → Routed
routed_to o e = let x = generated o e in record { exception = x; target = target_el o x; ret = return_address o x }
