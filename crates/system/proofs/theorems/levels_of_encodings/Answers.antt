use Rattle.system.specs.Decode.{named, decode_of}
use Rattle.system.proofs.Words.{other_crn}
use Rattle.system.proofs.theorems.levels_of_encodings.Goals as goal

pub returns : goal.returns
unfolding named decode_of
returns c = assumption other_crn
