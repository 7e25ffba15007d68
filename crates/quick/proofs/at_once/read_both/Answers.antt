use Rattle.std.proofs.Common.{rules}
use Rattle.quick.proofs.Both.{few, lies}
use Rattle.quick.proofs.at_once.read_both.Goals as goal

pub joined-requires-clause-n_bound : goal.joined-requires-clause-n_bound
joined-requires-clause-n_bound c = search (few, rules)

pub joined-requires-clause-lie : goal.joined-requires-clause-lie
joined-requires-clause-lie c = search (lies, rules)
