use Rattle.std.proofs.Common.{rules}
use Rattle.cluster_calls.proofs.OnCore.{by-core, off-core}
use Rattle.cluster_calls.proofs.memory.data_pa_apart.Goals as goal

pub returns-in-Ok : goal.returns-in-Ok
returns-in-Ok c =
    by-core _ _ _ _ c.args.n c.core.result c.in-Ok.i _ _ _ _ _ _ _ (search rules) c.core.ensures c.in-Ok.is c.data_pa-number.ensures c.after.ensures

pub returns-in-Err : goal.returns-in-Err
returns-in-Err c = off-core _ _ _ _ c.args.n c.core.result c.in-Err.missed _ _ c.core.ensures c.in-Err.is c.number.ensures
