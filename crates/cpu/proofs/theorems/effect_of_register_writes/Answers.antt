use Rattle.sysreg.specs.Encoding.{banked_at, register_at}
use Rattle.sysreg.specs.Write.{control_with, sys_with, write_reg}
use Rattle.sysreg.specs.Shape.{same_shape, asid_base, asid_of}
use Rattle.tlb.specs.Tlb.{flush_of, retag_of, reshaped_of, retagged_of}
use Rattle.cpu.specs.Core.{after_access}
use Rattle.cpu.specs.System.{refit_of, with_regs, applied_of, after_register_write}
use Rattle.cpu.proofs.theorems.effect_of_register_writes.Goals as goal

pub returns : goal.returns
unfolding after_register_write applied_of with_regs refit_of reshaped_of retagged_of flush_of retag_of write_reg register_at banked_at control_with sys_with same_shape asid_of asid_base after_access
returns c = assumption
