use Rattle.core_transparency.proofs.Counters.{hits-on-core, walks-on-core, sums-on-core}
use Rattle.core_transparency.proofs.theorems.counters_on_core.Goals as goal

pub returns-clause-hits : goal.returns-clause-hits
returns-clause-hits c = hits-on-core

pub returns-clause-walks : goal.returns-clause-walks
returns-clause-walks c = walks-on-core

pub returns-clause-sums : goal.returns-clause-sums
returns-clause-sums c = sums-on-core
