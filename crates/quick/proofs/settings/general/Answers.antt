use Rattle.std.proofs.Common.{arith}
use Rattle.quick.proofs.Setting.{becomes, general-set, general-none, general-high, general-over}
use Rattle.quick.proofs.settings.general.Goals as goal

pub returns-then-core-gt3 : goal.returns-then-core-gt3
returns-then-core-gt3 c = general-high _ _ _ (omega (arith, c.if-core-gt3.true))

pub returns-then-number-lt31 : goal.returns-then-number-lt31
returns-then-number-lt31 c = becomes _ _ _ _ _ c.set_reg.ensures (general-set _ _ _ (omega (arith, c.if-core-gt3.false)) (omega (arith, c.if-number-lt31.true)))

pub returns-then-number-eq31 : goal.returns-then-number-eq31
returns-then-number-eq31 c = general-none _ _ _ (omega (arith, c.if-core-gt3.false)) c.if-number-eq31.true

pub returns-else-number-eq31 : goal.returns-else-number-eq31
returns-else-number-eq31 c = general-over _ _ _ (omega (arith, c.if-core-gt3.false)) (omega (arith, c.if-number-lt31.false, c.if-number-eq31.false))
