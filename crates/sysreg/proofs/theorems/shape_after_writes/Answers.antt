use Rattle.sysreg.specs.Shape.{same_shape}
use Rattle.sysreg.specs.Regs.{fresh_control}
use Rattle.sysreg.specs.Write.{control_with}
use Rattle.sysreg.proofs.ShapeLaws.{agrees-shape, shape-changed, keeps-ttbr0, keeps-ttbr1, keeps-system}
use Rattle.sysreg.proofs.theorems.shape_after_writes.Goals as goal

pub returns : goal.returns
unfolding same_shape fresh_control control_with
returns c = assumption (agrees-shape, shape-changed, keeps-ttbr0, keeps-ttbr1, keeps-system)
