use Rattle.std.proofs.Common.{rules}
use Rattle.cluster_calls.proofs.OnCore.{set-on, set-off}
use Rattle.cluster_calls.proofs.settings.general.Goals as goal

pub returns-in-Ok : goal.returns-in-Ok
returns-in-Ok c = set-on _ _ c.args.n c.core.result c.in-Ok.i _ _ _ _ (search rules) c.core.ensures c.in-Ok.is c.general-answer.ensures c.after.ensures

pub returns-in-Err : goal.returns-in-Err
returns-in-Err c = set-off _ _ c.args.n c.core.result c.in-Err.missed _ c.core.ensures c.in-Err.is c.number.ensures
