use Rattle.cluster.proofs.Rows.{form-rows, other-rows, crm-rows, sender-rows, number-rows, mark-rows}
use Rattle.cluster.proofs.theorems.cores_in_numbers.Goals as goal

pub returns : goal.returns
returns c = assumption (form-rows, other-rows, crm-rows, sender-rows, number-rows, mark-rows)
