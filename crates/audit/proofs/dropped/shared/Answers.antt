use Rattle.std.proofs.Common.{rules}
use Rattle.cpu.specs.Core.{reg_of}
use Rattle.audit.proofs.Laws.{tlbi-shares}
use Rattle.audit.proofs.dropped.shared.Goals as goal

pub returns-in-Tlbi : goal.returns-in-Tlbi
unfolding reg_of
returns-in-Tlbi c = search (tlbi-shares, rules)
