use Rattle.cpu.proofs.OpLaws.{says-by, ram-by, ram-length, kept, store-last, fetch-last, write-leaves}
use Rattle.cpu.proofs.OpLaws.{tlb-after}
use Rattle.cpu.proofs.theorems.effect_of_operations.Goals as goal

pub returns : goal.returns
returns c = assumption (says-by, ram-by, ram-length, tlb-after, kept, store-last, fetch-last, write-leaves)
