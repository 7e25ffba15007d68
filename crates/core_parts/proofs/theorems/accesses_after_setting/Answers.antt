use Rattle.core_parts.specs.Put.{flags_in}
use Rattle.core_parts.proofs.Accesses.{same_beside}
use Rattle.core_parts.proofs.theorems.accesses_after_setting.Goals as goal

pub returns-clause-pc : goal.returns-clause-pc
returns-clause-pc _ c pc = same_beside c c.flags pc

pub returns-clause-pstate : goal.returns-clause-pstate
returns-clause-pstate _ c psr = same_beside c (flags_in psr) c.pc
