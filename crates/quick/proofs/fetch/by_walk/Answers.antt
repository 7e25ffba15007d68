use Rattle.std.proofs.Common.{rules}
use Rattle.quick.proofs.ByHint.{by-walk}
use Rattle.quick.proofs.Fetching.{fetch-missed, told}
use Rattle.quick.proofs.fetch.by_walk.Goals as goal

pub returns : goal.returns
returns g c = search (rules, by-walk, told, fetch-missed)
