use Rattle.cpu.specs.Check.{missed_of}
use Rattle.cpu.proofs.theorems.checks_of_a_census.Goals as goal

pub returns-clause-numbers : goal.returns-clause-numbers
unfolding missed_of
returns-clause-numbers c = assumption
