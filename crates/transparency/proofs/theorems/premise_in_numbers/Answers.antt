use Rattle.transparency.proofs.PremiseRows.{all-rows, page-rows, bit-rows, asid-rows, write-rows, equal-rows}
use Rattle.transparency.proofs.theorems.premise_in_numbers.Goals as goal

pub returns : goal.returns
returns c = assumption (all-rows, page-rows, bit-rows, asid-rows, write-rows, equal-rows)
