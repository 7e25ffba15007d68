use Rattle.std.specs.Prelude.{◌/◌, ◌%◌}
use Rattle.std.proofs.Common.{arith}
use Rattle.quick.proofs.Hinting.{place-is}
use Rattle.quick.proofs.hint.place.Goals as goal

pub returns-clause-value : goal.returns-clause-value
returns-clause-value c = place-is c.args.va (c.args.kind / 2 % 2) (omega arith)
