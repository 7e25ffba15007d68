use Rattle.sysreg.specs.Regs.{fresh_sys}
use Rattle.exception.specs.Pstate.{spsr_of}
use Rattle.exception.specs.Syndrome.{syndrome_of}
use Rattle.exception.specs.Route.{routed_to}
use Rattle.exception.specs.Entry.{entered_sys, enter_of, take_sync}
use Rattle.exception.proofs.theorems.tables_of_entries.Goals as goal

pub returns : goal.returns
unfolding take_sync enter_of entered_sys syndrome_of routed_to spsr_of fresh_sys
returns c = assumption
