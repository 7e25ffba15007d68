use Rattle.std.proofs.Common.{rules}
use Rattle.quick.proofs.Both.{made, unmade, pair-wrote, both-unwritten}
use Rattle.quick.proofs.at_once.write_pair.Goals as goal

pub returns-then-both_inside : goal.returns-then-both_inside
returns-then-both_inside c = search (made, pair-wrote, rules)

pub returns-else-both_inside : goal.returns-else-both_inside
returns-else-both_inside c = search (unmade, both-unwritten, rules)
