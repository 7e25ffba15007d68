use Rattle.transparency.proofs.Alone.{alone-same}
use Rattle.transparency.proofs.Instance.{every-reply, invisible-lists}
use Rattle.transparency.proofs.theorems.every_reply.Goals as goal

pub returns : goal.returns
returns c = assumption (alone-same, every-reply, invisible-lists)
