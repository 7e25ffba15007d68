use Rattle.cpu.proofs.ReadLaws.{calls-read-few, at-reads, others-read-nothing, refused-read-nothing}
use Rattle.cpu.proofs.theorems.work_of_calls.Goals as goal

pub returns : goal.returns
returns c = assumption (calls-read-few, at-reads, others-read-nothing, refused-read-nothing)
