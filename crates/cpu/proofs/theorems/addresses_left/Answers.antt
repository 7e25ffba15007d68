use Rattle.cpu.proofs.OwnAddress.{own-first, load-failing, store-failing, fetch-failing}
use Rattle.cpu.proofs.theorems.addresses_left.Goals as goal

pub returns : goal.returns
returns c = assumption (own-first, load-failing, store-failing, fetch-failing)
