-- The aborts by their parts.
use Rattle.std.specs.Prelude.{ℕ, Bool}
use Rattle.fault.specs.declared.Fault.{Fault}
use Rattle.exception.specs.declared.kind.Exception.{Exception}
use Rattle.exception.specs.declared.kind.Exception.TheVariants.{DataAbort, InsnAbort}

abbrev pub data_abort_at : ℕ → Bool → Fault → Exception
data_abort_at addr write f = DataAbort (record { addr = addr; write = write; fault = f })

abbrev pub insn_abort_at : ℕ → Fault → Exception
insn_abort_at addr f = InsnAbort (record { addr = addr; fault = f })
