use Rattle.core_calls.proofs.Windows.{rows}
use Rattle.core_calls.proofs.theorems.windows_in_numbers.Goals as goal

pub returns : goal.returns
returns c = record { rows = rows }
