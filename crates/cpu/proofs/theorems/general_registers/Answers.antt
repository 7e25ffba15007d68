use Rattle.cpu.proofs.EveryCallEnds.{reads-what-is-written, last-is-written, others-stay, reads-zero, drops-writes, nothing-else, register-rows}
use Rattle.cpu.proofs.EveryCallEnds.{neighbour-rows}
use Rattle.cpu.proofs.theorems.general_registers.Goals as goal

pub returns : goal.returns
returns c = assumption (reads-what-is-written, last-is-written, others-stay, reads-zero, drops-writes, nothing-else, register-rows, neighbour-rows)
