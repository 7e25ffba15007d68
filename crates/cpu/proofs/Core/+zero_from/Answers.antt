-- A store that stops ends the zeroing.
use Rattle.std.proofs.Common.{rules}
use Rattle.cpu.proofs.ZeroLaws.{stops-is, stops-ram, stops-work}
use Rattle.cpu.proofs.Core.+zero_from.Goals as goal

pub returns-in_err-write-clause-value : goal.returns-in_err-write-clause-value
returns-in_err-write-clause-value t c = search (stops-is, rules)

pub returns-in_err-write-clause-ram_after : goal.returns-in_err-write-clause-ram_after
returns-in_err-write-clause-ram_after t c = search (stops-ram, rules)

pub returns-in_err-write-clause-work : goal.returns-in_err-write-clause-work
returns-in_err-write-clause-work t c = search (stops-work, rules)
