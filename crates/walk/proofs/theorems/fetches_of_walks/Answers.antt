use Rattle.std.proofs.Common.{rules}
use Rattle.walk.proofs.Loop.{few-fetches, agrees}
use Rattle.walk.proofs.Order.{visits-fetch}
use Rattle.walk.proofs.WalkBounds.{fetches-of-page, leaf-of-page, fault-of-page}
use Rattle.walk.proofs.theorems.fetches_of_walks.Goals as goal

pub returns : goal.returns
returns c = search (rules, few-fetches, visits-fetch, agrees, fetches-of-page, leaf-of-page, fault-of-page)
