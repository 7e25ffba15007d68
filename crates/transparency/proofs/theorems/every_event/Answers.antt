use Rattle.transparency.proofs.Bridge.{bridge, tlbi-event}
use Rattle.transparency.proofs.theorems.every_event.Goals as goal

pub returns : goal.returns
returns c = assumption (bridge, tlbi-event)
