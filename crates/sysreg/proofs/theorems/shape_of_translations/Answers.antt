use Rattle.sysreg.proofs.ShapeLaws.{shape-agrees, write-keeps-shape}
use Rattle.sysreg.proofs.theorems.shape_of_translations.Goals as goal

pub returns : goal.returns
returns c = assumption (shape-agrees, write-keeps-shape)
