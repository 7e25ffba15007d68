use Rattle.flip.proofs.Flipping.{length-flipped, flip-bytes, flip-turned, flip-kept, flip-twice}
use Rattle.flip.proofs.FlipLaws.{bit-placed, word-turned, word-kept, nothing-flipped}
use Rattle.flip.proofs.theorems.flips.Goals as goal

pub returns : goal.returns
returns c = assumption (length-flipped, flip-bytes, flip-turned, flip-kept, flip-twice, bit-placed, word-turned, word-kept, nothing-flipped)
