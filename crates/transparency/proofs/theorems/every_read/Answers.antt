use Rattle.transparency.proofs.CallReads.{call-reads, each-reads, at-reads, refused-reads, quiet-reads}
use Rattle.transparency.proofs.theorems.every_read.Goals as goal

pub returns : goal.returns
returns c = assumption (call-reads, each-reads, at-reads, refused-reads, quiet-reads)
