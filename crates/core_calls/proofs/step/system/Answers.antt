use Rattle.core_calls.proofs.Said.{told}
use Rattle.core_calls.proofs.step.system.Goals as goal

pub returns : goal.returns
returns c = told _ _ _ _ _ _ _ _ _ c.system.ensures.tells c.system.ensures.ram
