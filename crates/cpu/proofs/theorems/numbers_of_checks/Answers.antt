use Rattle.sysreg.specs.Encoding.{banked_at, register_at}
use Rattle.cpu.specs.Check.{missed_of}
use Rattle.cpu.proofs.theorems.numbers_of_checks.Goals as goal

pub returns : goal.returns
unfolding missed_of register_at banked_at
returns c = assumption
