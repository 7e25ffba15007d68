use Rattle.std.proofs.Common.{refl}
use Rattle.core_calls.proofs.Said.{read-told}
use Rattle.core_calls.proofs.memory.fetch.Goals as goal

pub returns : goal.returns
returns c = read-told _ _ _ _ refl _ _ _ _ c.fetch.ensures
