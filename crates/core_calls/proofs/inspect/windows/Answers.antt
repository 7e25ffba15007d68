use Rattle.core_calls.proofs.Windows.{promise}
use Rattle.core_calls.proofs.inspect.windows.Goals as goal

pub returns : goal.returns
returns c = search (promise)
