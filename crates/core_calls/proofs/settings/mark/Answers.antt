use Rattle.core_calls.proofs.Said.{mark-said}
use Rattle.core_calls.proofs.settings.mark.Goals as goal

pub returns : goal.returns
returns c = mark-said c.args.mark _ _ _ c.mark.ensures
