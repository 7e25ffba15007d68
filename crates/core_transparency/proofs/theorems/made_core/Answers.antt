use Rattle.core_transparency.specs.OnCore.{made-core}
use Rattle.core_transparency.proofs.theorems.made_core.Goals as goal

pub returns : goal.returns
returns c = record { hold = made-core }
