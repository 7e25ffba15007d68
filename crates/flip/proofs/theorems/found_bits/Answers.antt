use Rattle.flip.proofs.FoundLaws.{found-changes, found-first, bit-found, found-none, none-found}
use Rattle.flip.proofs.theorems.found_bits.Goals as goal

pub returns : goal.returns
returns c = assumption (found-changes, found-first, bit-found, found-none, none-found)
