use Rattle.core_calls.proofs.Said.{told}
use Rattle.core_calls.proofs.memory.store.Goals as goal

pub returns : goal.returns
returns c = told _ _ _ _ _ _ _ _ _ c.store.ensures.tells c.store.ensures.ram
