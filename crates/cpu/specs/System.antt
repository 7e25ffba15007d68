-- General registers, register writes, TLBI, AT, DC ZVA and the abort entry.
use Rattle.std.specs.Prelude.{ℕ, Bool, Ok, Err, zero, suc, ◌+◌, List, Option}
use Rattle.sysreg.specs.Shape.{same_shape, asid_of}
use Rattle.sysreg.specs.declared.regs.Control.{Control}
use Rattle.sysreg.specs.Write.{write_reg, WriteAnswer, Written}
use Rattle.sysreg.specs.declared.{regs.SysRegs.SysRegs}
use Rattle.exception.specs.Entry.{take_sync}
use Rattle.exception.specs.declared.kind.Exception.{Exception}
use Rattle.word.specs.Bits.{align_down, wrap}
use Rattle.word.specs.Ram.{word_at}
use Rattle.sysreg.specs.Regs.{sys_at}
use Rattle.sysreg.specs.declared.regs.Register.TheVariants.{Mair}
use Rattle.sysreg.specs.declared.regs.Regime.{Regime}
use Rattle.cpu.specs.Bare.{with_entered, bare_of, in_core}
use Rattle.cpu.specs.Memory.{with_tlb, write_of, ram_after_write}
use Rattle.cpu.specs.declared.Core.{Core}
use Rattle.cpu.specs.Core.{reg_of, Answered}
use Rattle.cpu.specs.Bare as Bare
unfoldable pub use Rattle.tlb.specs.Tlb.{reshaped_of, retagged_of, invalidated_of}
use Rattle.tlb.specs.Tlb.{refit_by}
use Rattle.tlb.specs.declared.Tlb.{Tlb}
use Rattle.exception.specs.declared.kind.Stop.{Stop}
use Rattle.system.specs.Decode.{decode_of}
use Rattle.system.specs.Tlbi.{tlbi_of, reaches_others}
use Rattle.system.specs.Par.{at_par}
use Rattle.system.specs.declared.{decode.AtForm.AtForm, decode.SysOp.SysOp}
use Rattle.system.specs.declared.decode.SysOp.TheVariants.{At, Tlbi, Zva, Nothing, Undefined, Unimplemented}
use Rattle.cpu.specs.Bytes.{StoreAnswer}

-- What a register write does to the cache: that of tlb's Maintenance, by the registers before and after it.
unfoldable pub refit_of : Tlb → Control → Control → Tlb
refit_of t before after = refit_by t (same_shape before after) (asid_of after)

-- Register writes, settings and abort entry on the core.

-- the core with other registers
unfoldable pub with_regs : Core → Control → SysRegs → Core
with_regs c k s = in_core c (Bare.with_regs (bare_of c) k s)

-- a write that is done changes its register, and then the cache by the scope's rule; any other changes nothing
unfoldable pub applied_of : Core → Written → Core
applied_of c w = with_tlb (with_regs c w.control w.sys) (refit_of c.tlb c.control w.control)

abbrev pub registered : Core → Written → WriteAnswer → Answered WriteAnswer
registered c w (Ok x) = record { core = applied_of c w; answer = Ok tt }
registered c w (Err e) = record { core = c; answer = Err e }

abbrev pub written : Core → ℕ → ℕ → Written
written c key value = write_reg c.control c.sys c.privilege.level key value

unfoldable pub after_register_write : Core → ℕ → ℕ → Answered WriteAnswer
after_register_write c key value = registered c (written c key value) (written c key value).answer

-- a setting stores its value
abbrev pub with_privilege : Core → ℕ → Bool → Core
with_privilege c level mark = in_core c (Bare.with_privilege (bare_of c) level mark)

unfoldable pub set_level : Core → ℕ → Core
set_level c level = with_privilege c level c.privilege.unprivileged

unfoldable pub set_mark : Core → Bool → Core
set_mark c mark = with_privilege c c.privilege.level mark

-- level, flags, PC and registers after an exception; all else stays
unfoldable pub abort_of : Core → Exception → Core
abort_of c e =
    in_core c
    (with_entered (bare_of c) (take_sync c.privilege.level c.flags c.pc c.control.scr_el3 c.control.hcr_el2 c.sys e))

-- System operations on the core.
-- MAIR of a regime
abbrev pub mair_of : SysRegs → Regime → ℕ
mair_of s r = sys_at s (Mair r)

unfoldable pub with_par : Core → ℕ → Core
with_par c par = in_core c (Bare.with_par (bare_of c) par)

-- AT walks afresh, and PAR_EL1 alone changes
unfoldable pub at_of : Core → (ℕ → Option ℕ) → AtForm → ℕ → Core
at_of c memory form va = with_par c (at_par c.control (mair_of c.sys form.regime) form va memory)

unfoldable pub tlbi_core : Core → ℕ → ℕ → ℕ → ℕ → Core
tlbi_core c op1 crm op2 x = with_tlb c (invalidated_of c.tlb (tlbi_of c.control op1 crm op2 x) (reaches_others crm))

-- n stores of eight zero bytes from va on, up to the first that stops; `ZeroMeaning` says what they leave in RAM
abbrev pub done_with : Core → Answered StoreAnswer
done_with c = record { core = c; answer = Ok tt }

abbrev pub on_stored : {A : Type 0} → StoreAnswer → A → A → A
on_stored (Ok x) more end = more
on_stored (Err s) more end = end

unfoldable pub zero_of : ℕ → Core → ℕ → List ℕ → ℕ → Answered StoreAnswer
zero_of zero c base ram va = done_with c
zero_of (suc n) c base ram va =
    on_stored (write_of c base ram va 8).answer
    (zero_of n (write_of c base ram va 8).core base (ram_after_write c base ram va 8 0) (wrap (va + 8)))
    (write_of c base ram va 8)

unfoldable pub zero_ram : ℕ → Core → ℕ → List ℕ → ℕ → List ℕ
zero_ram zero c base ram va = ram
zero_ram (suc n) c base ram va =
    on_stored (write_of c base ram va 8).answer
    (zero_ram n (write_of c base ram va 8).core base (ram_after_write c base ram va 8 0) (wrap (va + 8)))
    (ram_after_write c base ram va 8 0)

-- What a system operation does, by what its encoding names. DC ZVA: A8, its stores, and so a fault's address, begin at
-- the register's value aligned down to 64; M21, the mark holds for them; D4, they are made to Device memory too.
abbrev pub sys_by : SysOp → Core → ℕ → List ℕ → ℕ → ℕ → ℕ → ℕ → Answered StoreAnswer
sys_by (At form) c base ram op1 crm op2 x = done_with (at_of c (word_at base ram 8) form x)
sys_by Tlbi c base ram op1 crm op2 x = done_with (tlbi_core c op1 crm op2 x)
sys_by Zva c base ram op1 crm op2 x = zero_of 8 c base ram (align_down x 6)
sys_by Nothing c base ram op1 crm op2 x = done_with c
sys_by Undefined c base ram op1 crm op2 x = record { core = c; answer = Err (Stop.Exception Exception.Undefined) }
sys_by Unimplemented c base ram op1 crm op2 x = record { core = c; answer = Err Stop.Unimplemented }

-- only a zeroing writes RAM
abbrev pub sys_ram_by : SysOp → Core → ℕ → List ℕ → ℕ → List ℕ
sys_ram_by Zva c base ram x = zero_ram 8 c base ram (align_down x 6)
sys_ram_by _ c base ram x = ram

abbrev pub op_of : Core → ℕ → ℕ → ℕ → ℕ → SysOp
op_of c op1 crn crm op2 = decode_of c.privilege.level op1 crn crm op2

unfoldable pub sys_of : Core → ℕ → List ℕ → ℕ → ℕ → ℕ → ℕ → ℕ → Answered StoreAnswer
sys_of c base ram op1 crn crm op2 rt = sys_by (op_of c op1 crn crm op2) c base ram op1 crm op2 (reg_of c rt)

unfoldable pub sys_ram : Core → ℕ → List ℕ → ℕ → ℕ → ℕ → ℕ → ℕ → List ℕ
sys_ram c base ram op1 crn crm op2 rt = sys_ram_by (op_of c op1 crn crm op2) c base ram (reg_of c rt)
