use Rattle.history.specs.Instance.{real}
use Rattle.history.proofs.Tallies.{run-hits, run-walks, run-sums, run-other}
use Rattle.history.proofs.theorems.every_count.Goals as goal

pub returns-clause-hits : goal.returns-clause-hits
returns-clause-hits c = run-hits real

pub returns-clause-walks : goal.returns-clause-walks
returns-clause-walks c = run-walks real

pub returns-clause-sums : goal.returns-clause-sums
returns-clause-sums c = run-sums real

pub returns-clause-others : goal.returns-clause-others
returns-clause-others c = run-other real
