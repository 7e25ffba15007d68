use Rattle.std.proofs.Common.{refl}
use Rattle.core_calls.proofs.Said.{set-said}
use Rattle.core_calls.proofs.settings.register.Goals as goal

pub returns : goal.returns
returns c = set-said _ _ refl _ _ c.register.ensures
