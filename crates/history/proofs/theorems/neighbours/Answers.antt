use Rattle.history.proofs.EveryNeighbour.{real-neighbours}
use Rattle.history.proofs.theorems.neighbours.Goals as goal

pub returns : goal.returns
returns c = assumption real-neighbours
