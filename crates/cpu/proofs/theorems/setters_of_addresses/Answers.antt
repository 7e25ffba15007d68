use Rattle.cpu.proofs.EveryCallEnds.{only-loads-set-last, translations-keep-abort}
use Rattle.cpu.proofs.theorems.setters_of_addresses.Goals as goal

pub returns : goal.returns
returns c = assumption (only-loads-set-last, translations-keep-abort)
