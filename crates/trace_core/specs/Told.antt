-- A call's reply, by the number that the call gave.
use Rattle.std.specs.Prelude.{if◌then◌else◌, ℕ, ◌%◌, ◌==◌, nat_lt, Bool}
use Rattle.fault.specs.First.{first}
use Rattle.exception.specs.Abort.{data_abort_at, insn_abort_at}
use Rattle.exception.specs.declared.kind.Stop.TheVariants as Stop
use Rattle.cpu.specs.declared.call.Reply.{Reply}
use Rattle.cpu.specs.declared.call.Reply.TheVariants.{Refused, Fault, Stopped}

-- 0: done; below 256: refused; else a fault
abbrev pub told : ℕ → Reply → Reply → Reply
told n done faulted = if n == 0 then done else if nat_lt n 256 then Refused n else faulted

-- the fault of a translation, of a load or a store, and of a fetch: the number is 256 and its status
abbrev pub fault_told : ℕ → ℕ → Reply
fault_told n addr = Fault addr (first (n % 256))

abbrev pub data_told : ℕ → ℕ → Bool → Reply
data_told n addr write = Stopped (Stop.Exception (data_abort_at addr write (first (n % 256))))

abbrev pub insn_told : ℕ → ℕ → Reply
insn_told n addr = Stopped (Stop.Exception (insn_abort_at addr (first (n % 256))))
