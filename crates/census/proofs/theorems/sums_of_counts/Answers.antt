use Rattle.census.proofs.Laws.{all-counted, joins, low_bits}
use Rattle.census.proofs.theorems.sums_of_counts.Goals as goal

pub returns : goal.returns
returns c = assumption (all-counted, joins, low_bits)
