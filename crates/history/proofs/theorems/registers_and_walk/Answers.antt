use Rattle.history.proofs.Instance.{real-laws}
use Rattle.history.proofs.theorems.registers_and_walk.Goals as goal

pub returns : goal.returns
returns c = record { laws = real-laws }
