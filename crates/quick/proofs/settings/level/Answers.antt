use Rattle.std.proofs.Common.{arith}
use Rattle.quick.proofs.Setting.{becomes, level-set, level-high, level-over}
use Rattle.quick.proofs.settings.level.Goals as goal

pub returns-then-core-gt3 : goal.returns-then-core-gt3
returns-then-core-gt3 c = level-high _ _ (omega (arith, c.if-core-gt3.true))

pub returns-then-level-gt3 : goal.returns-then-level-gt3
returns-then-level-gt3 c = level-over _ _ (omega (arith, c.if-level-gt3.true))

pub returns : goal.returns
returns c = becomes _ _ _ _ _ c.set_level.ensures (level-set _ _ (omega (arith, c.if-core-gt3.false)) (omega (arith, c.if-level-gt3.false)))
