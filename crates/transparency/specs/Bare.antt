-- The core without a cache of docs/SCOPE.md, as a machine of its own: fed each step's call and RAM, and no answers.
use Rattle.std.specs.Prelude.{ℕ, length, Ok, Err}
use Rattle.sysreg.specs.Write.{write_reg, WriteAnswer, Written}
use Rattle.exception.specs.Entry.{Entered, take_sync}
use Rattle.exception.specs.declared.kind.Exception.{Exception}
use Rattle.exception.specs.declared.kind.Stop.TheVariants as Stop
use Rattle.system.specs.Decode.{decode_of}
use Rattle.system.specs.Par.{at_par}
use Rattle.system.specs.declared.{decode.AtForm.AtForm, decode.SysOp.SysOp}
use Rattle.system.specs.declared.decode.SysOp.TheVariants as Op
use Rattle.cpu.specs.Bare.{Bare, reg_in, with_privilege, with_general, with_regs, with_par, with_entered}
use Rattle.cpu.specs.System.{mair_of}
use Rattle.cpu.specs.Check.{missed_of}
use Rattle.cpu.specs.Step.{refused_or}
use Rattle.system.specs.declared.decode.Encoding.{Encoding}
use Rattle.cpu.specs.declared.{call.Call.Call, call.Reply.Reply}
use Rattle.cpu.specs.declared.call.Call.TheVariants.{System, Register, Level, Mark, General}
use Rattle.cpu.specs.declared.call.Call.TheVariants.{Abort}
use Rattle.cpu.specs.declared.call.Reply.TheVariants.{Refused, Done, Stopped}
use Rattle.history.specs.Window.{Ram, memory_of}
use Rattle.sysreg.specs.declared.write.WriteError.TheVariants.{Undefined, NoRegister}

-- Its state is the level, the mark, the registers kept and the general registers, at first those of `Cpu::new`; and
-- what abort entry reads and sets besides: flags and PC. The record and its updates are the core's (`Bare`, `fresh_bare`); what
-- each call does with them is said here, on its own.

-- REFUSALS: a number, Undefined or Unimplemented

pub data Ruling : Type 0 where
  allowed : Ruling
  number : ℕ → Ruling
  undefined : Ruling
  unimplemented : Ruling

-- numbers 1 to 7: the first check that the call misses, 0 where it misses none
abbrev pub missed_in : Bare → Ram → Call → ℕ
missed_in b m x = missed_of b.privilege.level m.base (length m.bytes) x

-- what a system operation's encoding names at the present level, and its operand
abbrev pub op_in : Bare → Encoding → SysOp
op_in b e = decode_of b.privilege.level e.op1 e.crn e.crm e.op2

abbrev pub operand_in : Bare → Encoding → ℕ
operand_in b e = reg_in b.x e.rt

-- `write_reg`
abbrev pub written_in : Bare → ℕ → ℕ → Written
written_in b key value = write_reg b.control b.sys b.privilege.level key value

-- "as `sys` and `write_reg` say: Undefined or Unimplemented"
abbrev pub by_sys : SysOp → Ruling
by_sys Op.Undefined = undefined
by_sys Op.Unimplemented = unimplemented
by_sys _ = allowed

abbrev pub by_write : WriteAnswer → Ruling
by_write (Ok x) = allowed
by_write (Err Undefined) = undefined
by_write (Err NoRegister) = number 6

abbrev pub ruled_in : Bare → Call → Ruling
ruled_in b (System e) = by_sys (op_in b e)
ruled_in b (Register key value) = by_write (written_in b key value).answer
ruled_in b _ = allowed

-- the table, from top to bottom
abbrev pub ruling_in : Bare → Ram → Call → Ruling
ruling_in b m x = refused_or (missed_in b m x) number (ruled_in b x)

-- each as the call's reply
abbrev pub refusal_of : Ruling → Reply
refusal_of (number n) = Refused n
refusal_of undefined = Stopped (Stop.Exception Exception.Undefined)
refusal_of unimplemented = Stopped Stop.Unimplemented
refusal_of allowed = Done

abbrev pub if_allowed {ℓ} : {A : Type ℓ} → Ruling → A → A → A
if_allowed allowed x y = x
if_allowed _ x y = y

-- WHAT A CALL THAT IS NOT REFUSED DOES

-- AT and abort entry go by their definitions. AT sets PAR_EL1 alone, by a walk on these registers and the step's RAM.
abbrev pub par_at : Bare → Ram → AtForm → ℕ → ℕ
par_at b m form va = at_par b.control (mair_of b.sys form.regime) form va (memory_of m)

abbrev pub taken_in : Bare → Exception → Entered
taken_in b e = take_sync b.privilege.level b.flags b.pc b.control.scr_el3 b.control.hcr_el2 b.sys e

abbrev pub sys_does : SysOp → Bare → Ram → ℕ → Bare
sys_does (Op.At form) b m va = with_par b (par_at b m form va)
sys_does _ b m va = b

-- A setting stores its value; register 31 drops it. A register write does `write_reg` and no more. Every other call leaves the state as it is.
abbrev pub bare_does : Bare → Ram → Call → Bare
bare_does b m (Level level) = with_privilege b level b.privilege.unprivileged
bare_does b m (Mark mark) = with_privilege b b.privilege.level mark
bare_does b m (General n value) = with_general b n value
bare_does b m (Register key value) = with_regs b (written_in b key value).control (written_in b key value).sys
bare_does b m (System e) = sys_does (op_in b e) b m (operand_in b e)
bare_does b m (Abort e) = with_entered b (taken_in b e)
bare_does b m _ = b

-- A call that the table refuses (a number, Undefined or Unimplemented) changes nothing.
abbrev pub bare_step : Bare → Ram → Call → Bare
bare_step b m x = if_allowed (ruling_in b m x) (bare_does b m x) b
