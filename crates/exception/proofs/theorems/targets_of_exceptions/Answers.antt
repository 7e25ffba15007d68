use Rattle.exception.specs.Route.{routed_to}
use Rattle.exception.specs.Entry.{enter_of, take_sync}
use Rattle.exception.proofs.theorems.targets_of_exceptions.Goals as goal

pub returns : goal.returns
unfolding take_sync enter_of routed_to
returns c = assumption
