use Rattle.std.proofs.Common.{rules}
use Rattle.tlb.specs.Tlb.{no_tallies}
use Rattle.tlb.proofs.Cells.{replicate-at}
use Rattle.exception.specs.Pstate.{spsr_of}
use Rattle.cpu.specs.Core.{fresh_core}
use Rattle.cpu.proofs.EveryCallEnds.{fresh-general}
use Rattle.cpu.proofs.theorems.state_of_reset.Goals as goal

pub returns : goal.returns
unfolding fresh_core spsr_of no_tallies
returns c = search (rules, fresh-general, replicate-at)
