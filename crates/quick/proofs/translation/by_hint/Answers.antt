use Rattle.std.proofs.Common.{arith}
use Rattle.quick.proofs.ByHint.{hint-moves, asked-told}
use Rattle.quick.proofs.translation.by_hint.Goals as goal

pub returns-in-Some : goal.returns-in-Some
returns-in-Some g c = grind (arith, asked-told, hint-moves)
