use Rattle.sysreg.proofs.WriteLaws.{write-el0, write-nothing, write_done, write-control, write-sys, reg-written, reg-others}
use Rattle.sysreg.proofs.theorems.effect_of_writes.Goals as goal

pub returns : goal.returns
returns c = assumption (write-el0, write-nothing, write_done, write-control, write-sys, reg-written, reg-others)
