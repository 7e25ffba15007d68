use Rattle.std.proofs.Common.{arith}
use Rattle.quick.proofs.Setting.{becomes, mark-set, mark-high}
use Rattle.quick.proofs.settings.mark.Goals as goal

pub returns-then-core-gt3 : goal.returns-then-core-gt3
returns-then-core-gt3 c = mark-high _ c.args.mark (omega (arith, c.if-mark-gt1.false)) (omega (arith, c.if-core-gt3.true))

pub returns : goal.returns
returns c = becomes _ _ _ _ _ c.set_mark.ensures (mark-set _ c.args.mark (omega (arith, c.if-mark-gt1.false)) (omega (arith, c.if-core-gt3.false)))
