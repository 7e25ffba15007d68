use Rattle.cpu.proofs.EveryCallEnds.{number-le, quiet, refused, refused-ram, each_call_ends}
use Rattle.cpu.proofs.theorems.every_call_ends.Goals as goal

pub returns : goal.returns
returns c = assumption (each_call_ends, number-le, refused, refused-ram, quiet)
