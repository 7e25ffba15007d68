use Rattle.std.proofs.Common.{arith}
use Rattle.quick.proofs.Setting.{becomes, abort-set, abort-high}
use Rattle.quick.proofs.settings.abort.Goals as goal

pub returns-then-core-gt3 : goal.returns-then-core-gt3
returns-then-core-gt3 c = abort-high _ _ (omega (arith, c.if-core-gt3.true))

pub returns : goal.returns
returns c = becomes _ _ _ _ _ c.take_sync.ensures (abort-set _ _ (omega (arith, c.if-core-gt3.false)))
