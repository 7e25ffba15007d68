use Rattle.std.proofs.Common.{rules}
use Rattle.core_calls.proofs.Census.{promise-refused, promise-done}
use Rattle.core_calls.proofs.inspect.census.Goals as goal

pub returns-then-missed-ne0 : goal.returns-then-missed-ne0
returns-then-missed-ne0 c = search (promise-refused, rules)

pub returns : goal.returns
returns c = search (promise-done, rules)
