use Rattle.cluster_calls.proofs.Meaning.{rows}
use Rattle.cluster_calls.proofs.theorems.calls_in_numbers.Goals as goal

pub returns : goal.returns
returns c = record { rows = rows }
