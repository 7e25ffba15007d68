use Rattle.exception.proofs.FieldLaws.{spsr-fields, status-fields, vector-fields}
use Rattle.exception.proofs.theorems.fields_of_entry.Goals as goal

pub returns : goal.returns
returns c = assumption (spsr-fields, status-fields, vector-fields)
