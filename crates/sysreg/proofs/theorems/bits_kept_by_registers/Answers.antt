use Rattle.sysreg.specs.Write.{spsr_kept}
use Rattle.sysreg.proofs.Masks.{kept-masked}
use Rattle.sysreg.proofs.WriteLaws.{control-kept}
use Rattle.sysreg.proofs.theorems.bits_kept_by_registers.Goals as goal

pub returns : goal.returns
unfolding spsr_kept
returns c = assumption (kept-masked, control-kept)
