use Rattle.quick.proofs.Checks.{fetch-told}
use Rattle.quick.proofs.fetch.fetch.Goals as goal

pub returns : goal.returns
returns c = fetch-told _ _ _ _ _ _ _ _ c.asked.ensures
