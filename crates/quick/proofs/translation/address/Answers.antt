use Rattle.quick.proofs.Checks.{translate-told}
use Rattle.quick.proofs.translation.address.Goals as goal

pub returns : goal.returns
returns g c = translate-told _ _ _ _ _ _ _ _ g.P.Purpose.KIND c.rest.ensures
