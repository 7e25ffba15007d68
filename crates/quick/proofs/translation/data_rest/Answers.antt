use Rattle.quick.proofs.Checks.{data-told}
use Rattle.quick.proofs.translation.data_rest.Goals as goal

pub returns : goal.returns
returns c = data-told _ _ _ _ _ _ _ _ c.rest.ensures
