-- Of two translations the work is the second's, after the first's.
use Rattle.std.proofs.Common.{rules}
use Rattle.cpu.proofs.ReadLaws.{second-work}
use Rattle.cpu.proofs.Core.translate_access.Goals as goal

pub returns-in_err-pa2-clause-work : goal.returns-in_err-pa2-clause-work
returns-in_err-pa2-clause-work c = search (second-work, rules)

pub returns-clause-work : goal.returns-clause-work
returns-clause-work c = search (second-work, rules)
