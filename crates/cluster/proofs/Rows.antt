-- What four cores make of a TLBI, of a number and of a mark, in numbers.
use Rattle.std.specs.Prelude.{refl}
use Rattle.word.specs.Ram.{bytes_of}
use Rattle.sysreg.specs.Encoding.{banked_at, register_at}
use Rattle.sysreg.specs.Regs.{fresh_control, fresh_sys}
use Rattle.sysreg.specs.Shape.{same_shape, asid_base, asid_of}
use Rattle.sysreg.specs.Write.{control_with, sys_with, write_reg}
use Rattle.tlb.specs.Tlb.{invalidated_of, reshaped_of, retagged_of, flush_of, drop_page_of, drop_asid_of, retag_of, invalidate_of, broadcast_of}
use Rattle.system.specs.Decode.{named, decode_of}
use Rattle.system.specs.Tlbi.{scope_of, what_of, tlbi_of}
use Rattle.cpu.specs.Core.{zeros, fresh_core, reg_of, set_reg, after_access}
use Rattle.cpu.specs.Check.{missed_of}
use Rattle.cpu.specs.System.{refit_of, with_regs, applied_of, after_register_write, set_level, tlbi_core, sys_of}
use Rattle.cpu.specs.Step.{run_of, step_of}
use Rattle.cluster.specs.Rows as Statement

pub form-rows : Statement.form_rows
unfolding step_of run_of after_access reg_of sys_of tlbi_core invalidated_of fresh_core zeros fresh_control fresh_sys missed_of named decode_of
    scope_of what_of tlbi_of flush_of invalidate_of broadcast_of drop_page_of drop_asid_of retag_of bytes_of
form-rows = (refl, refl, refl, refl, refl, refl)

pub other-rows : Statement.other_rows
unfolding step_of run_of after_access reg_of sys_of set_level tlbi_core invalidated_of fresh_core zeros fresh_control fresh_sys missed_of named decode_of
    scope_of what_of tlbi_of flush_of invalidate_of broadcast_of drop_page_of bytes_of
other-rows = (refl, refl, refl, refl)

pub crm-rows : Statement.crm_rows
unfolding step_of run_of after_access reg_of sys_of tlbi_core invalidated_of fresh_core zeros fresh_control fresh_sys missed_of named decode_of
    scope_of what_of tlbi_of flush_of invalidate_of broadcast_of bytes_of
crm-rows = refl

pub sender-rows : Statement.sender_rows
unfolding step_of run_of after_access reg_of sys_of tlbi_core invalidated_of fresh_core zeros fresh_control fresh_sys missed_of named decode_of
    scope_of what_of tlbi_of flush_of invalidate_of broadcast_of drop_page_of bytes_of after_register_write applied_of with_regs refit_of
    retagged_of reshaped_of same_shape asid_of asid_base banked_at register_at control_with sys_with write_reg
sender-rows = (refl, refl)

pub number-rows : Statement.number_rows
unfolding step_of missed_of fresh_core zeros fresh_control fresh_sys
number-rows = (refl, refl, refl)

pub mark-rows : Statement.mark_rows
unfolding step_of run_of after_access reg_of set_reg sys_of tlbi_core invalidated_of fresh_core zeros fresh_control fresh_sys missed_of named decode_of
    scope_of what_of tlbi_of flush_of invalidate_of broadcast_of drop_page_of bytes_of
mark-rows = (refl, refl, refl, refl)
