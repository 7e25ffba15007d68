use Rattle.cpu.proofs.ZeroMeaning.{zero-line, zva-zeroes, never-crosses}
use Rattle.cpu.proofs.theorems.effect_of_zeroing.Goals as goal

pub returns : goal.returns
returns c = assumption (zero-line, zva-zeroes, never-crosses)
