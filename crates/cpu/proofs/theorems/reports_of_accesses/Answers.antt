use Rattle.cpu.proofs.OwnAddress.{loads-read, stores-write, fetches-report}
use Rattle.cpu.proofs.theorems.reports_of_accesses.Goals as goal

pub returns : goal.returns
returns c = assumption (loads-read, stores-write, fetches-report)
