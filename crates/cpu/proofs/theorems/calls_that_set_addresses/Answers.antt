use Rattle.cpu.proofs.EveryCallEnds.{only-load-calls-set-last, other-calls-keep-abort}
use Rattle.cpu.proofs.theorems.calls_that_set_addresses.Goals as goal

pub returns : goal.returns
returns c = assumption (only-load-calls-set-last, other-calls-keep-abort)
