use Rattle.system.proofs.Words.{at_level, undefined-el0, tlbi-fields, user-el1}
use Rattle.system.proofs.theorems.meaning_of_encodings.Goals as goal

pub returns : goal.returns
returns c = assumption (undefined-el0, tlbi-fields, user-el1, at_level)
