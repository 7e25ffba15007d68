use Rattle.std.proofs.Common.{rules}
use Rattle.word.proofs.RamLaws.{cut_field}
use Rattle.walk.proofs.theorems.ends_of_addresses.Goals as goal

pub returns : goal.returns
returns c = search (rules, cut_field)
