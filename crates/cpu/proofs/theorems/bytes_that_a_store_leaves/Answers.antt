use Rattle.cpu.proofs.BytesLaws.{store_length}
use Rattle.cpu.proofs.BytesLaws.{store-leaves, whole-or-none}
use Rattle.cpu.proofs.theorems.bytes_that_a_store_leaves.Goals as goal

pub returns : goal.returns
returns c = assumption (store_length, store-leaves, whole-or-none)
