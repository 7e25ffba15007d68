use Rattle.std.proofs.Common.{refl}
use Rattle.core_calls.proofs.Said.{set-said}
use Rattle.core_calls.proofs.settings.level.Goals as goal

pub returns : goal.returns
returns c = set-said _ _ refl _ _ c.level.ensures
