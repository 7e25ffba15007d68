use Rattle.cpu.proofs.ReadLaws.{sums-reads, few-reads, zeroing-few, zeroing-by-first, zeroing-four}
use Rattle.cpu.proofs.theorems.work_of_operations.Goals as goal

pub returns : goal.returns
returns c = assumption (sums-reads, few-reads, zeroing-few, zeroing-by-first, zeroing-four)
