use Rattle.cpu.proofs.OwnAddress.{load-aborts, store-aborts, fetch-aborts, loads-keep-first, faults-leave, done-leaves}
use Rattle.cpu.proofs.theorems.addresses_kept.Goals as goal

pub returns : goal.returns
returns c = assumption (load-aborts, store-aborts, fetch-aborts, loads-keep-first, faults-leave, done-leaves)
