use Rattle.cpu.proofs.BytesLaws.{lowest, all-inside}
use Rattle.cpu.proofs.theorems.byte_at_fault.Goals as goal

pub returns : goal.returns
returns c = assumption (lowest, all-inside)
