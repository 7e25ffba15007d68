use Rattle.std.proofs.Common.{rules}
use Rattle.cluster_calls.proofs.Looks.{flip-on, flip-off}
use Rattle.cluster_calls.proofs.inspect.flip.Goals as goal

pub returns-in-Ok : goal.returns-in-Ok
returns-in-Ok c = flip-on _ c.args.n c.core.result c.in-Ok.i _ _ _ (search rules) c.core.ensures c.in-Ok.is c.after.ensures _ _ _ _ _ _ _ _ c.flip-number.ensures

pub returns-in-Err : goal.returns-in-Err
returns-in-Err c = flip-off _ c.args.n c.core.result c.in-Err.missed _ c.core.ensures c.in-Err.is c.number.ensures _ _ _ _ _ _
