use Rattle.tlb.proofs.Translations.{runs}
use Rattle.tlb.proofs.theorems.runs_of_operations.Goals as goal

pub returns : goal.returns
returns c = record { same_as_the_model = runs }
