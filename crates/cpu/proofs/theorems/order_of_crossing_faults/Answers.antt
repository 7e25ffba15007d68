use Rattle.cpu.proofs.Crossing.{load-fails, store-fails, none-aborts, aborts-at, last-stays, half-moves-nothing, one-page-stays, crossings-stay}
use Rattle.cpu.proofs.Crossing.{these-change, load-decided, store-decided, none-decides}
use Rattle.cpu.proofs.theorems.order_of_crossing_faults.Goals as goal

pub returns : goal.returns
returns c = assumption (load-fails, store-fails, none-aborts, aborts-at, last-stays, half-moves-nothing, one-page-stays, crossings-stay, these-change, load-decided, store-decided, none-decides)
