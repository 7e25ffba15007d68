use Rattle.sysreg.specs.Regs.{fresh_control}
use Rattle.system.specs.Decode.{named, decode_of}
use Rattle.system.specs.Tlbi.{scope_of, what_of, tlbi_of}
use Rattle.system.proofs.theorems.tables_of_invalidations.Goals as goal

pub returns : goal.returns
unfolding tlbi_of what_of scope_of named decode_of fresh_control
returns c = assumption
