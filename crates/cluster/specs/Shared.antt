-- What a call shares with the other cores: read from the call and the state without a cache alone, so that no core's cache
-- has a say in it.
use Rattle.std.specs.Prelude.{if◌then◌else◌, Option, Some, None}
use Rattle.tlb.specs.declared.Inval.{Inval}
use Rattle.system.specs.Tlbi.{reaches_others}
use Rattle.system.specs.declared.decode.Encoding.{Encoding}
use Rattle.system.specs.declared.decode.SysOp.{SysOp}
use Rattle.system.specs.declared.decode.SysOp.TheVariants as Op
use Rattle.cpu.specs.Bare.{Bare}
use Rattle.cpu.specs.declared.call.Call.{Call}
use Rattle.cpu.specs.declared.call.Call.TheVariants.{System}
use Rattle.history.specs.Window.{Ram}
use Rattle.transparency.specs.Bare.{op_in, ruling_in, if_allowed}
use Rattle.transparency.specs.Events.{inval_in}

-- A TLBI whose CRm is 3 is an Inner Shareable form: it shares what it names. No other operation shares anything.
abbrev pub shared_op : SysOp → Bare → Encoding → Option Inval
shared_op Op.Tlbi b e = if reaches_others e.crm then Some (inval_in b e) else None
shared_op _ b e = None

abbrev pub shared_call : Bare → Call → Option Inval
shared_call b (System e) = shared_op (op_in b e) b e
shared_call b _ = None

-- nor does a call that is refused
abbrev pub shared_in : Bare → Ram → Call → Option Inval
shared_in b m x = if_allowed (ruling_in b m x) (shared_call b x) None
