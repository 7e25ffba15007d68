use Rattle.digest.proofs.Wording.{value-is}
use Rattle.digest.proofs.memory.word_at.Goals as goal

pub returns-in-Some : goal.returns-in-Some
returns-in-Some c = value-is _ _ _ _ c.in-Some.is c.read.ensures
