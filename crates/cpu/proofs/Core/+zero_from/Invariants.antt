-- The stores left fall.
use Rattle.cpu.proofs.Core.+zero_from.Given as goal

abbrev pub decreases-zero_from : goal.decreases-zero_from
decreases-zero_from l = l.n
