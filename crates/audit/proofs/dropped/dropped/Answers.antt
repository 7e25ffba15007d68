use Rattle.std.proofs.Common.{rules}
use Rattle.cpu.specs.Core.{reg_of}
use Rattle.audit.proofs.Laws.{tlbi-drops, write-drops}
use Rattle.audit.proofs.dropped.dropped.Goals as goal

pub returns-in-Tlbi : goal.returns-in-Tlbi
unfolding reg_of
returns-in-Tlbi c = search (tlbi-drops, rules)

pub returns-in-Register : goal.returns-in-Register
returns-in-Register c = search (write-drops, rules)
