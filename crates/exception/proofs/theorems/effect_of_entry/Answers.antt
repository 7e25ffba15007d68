use Rattle.exception.proofs.EntryLaws.{take_at, take-others, take_level, take-up}
use Rattle.exception.proofs.theorems.effect_of_entry.Goals as goal

pub returns : goal.returns
returns c = assumption (take_at, take-others, take_level, take-up)
