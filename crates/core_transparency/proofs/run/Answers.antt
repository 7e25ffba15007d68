-- One call more, and the last.
use Rattle.std.proofs.Common.{arith, rules}
use Rattle.core_transparency.specs.Run.{on-fresh, on-next, on-last}
use Rattle.core_transparency.proofs.run.Goals as goal

pub loop-k-init : goal.loop-k-init
loop-k-init c = record { within = search rules; on = search (on-fresh, rules) }

pub loop-k-preserved : goal.loop-k-preserved
loop-k-preserved c = record { within = (omega arith, search rules); on = search (on-next, rules) }

pub returns : goal.returns
returns c = search (on-last, rules)
