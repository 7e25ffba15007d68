use Rattle.cpu.proofs.EveryCallEnds.{looking-core, looking-ram}
use Rattle.cpu.proofs.theorems.looking_changes_nothing.Goals as goal

pub returns : goal.returns
returns c = assumption (looking-core, looking-ram)
