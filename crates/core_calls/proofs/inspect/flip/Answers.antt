use Rattle.core_calls.proofs.Flip.{named}
use Rattle.core_calls.proofs.inspect.flip.Goals as goal

pub returns-in-Ok-Some : goal.returns-in-Ok-Some
returns-in-Ok-Some c = search (named)
