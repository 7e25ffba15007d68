use Rattle.core_calls.proofs.Flip.{rows}
use Rattle.core_calls.proofs.theorems.flip_in_numbers.Goals as goal

pub returns : goal.returns
returns c = record { rows = rows }
