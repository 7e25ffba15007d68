use Rattle.std.proofs.Common.{rules}
use Rattle.cluster_calls.proofs.OnCore.{quiet-core}
use Rattle.cluster_calls.proofs.Quiet.{data-pa-quiet}
use Rattle.cluster_calls.proofs.memory.data_pa.Goals as goal

pub returns-then-is_quiet : goal.returns-then-is_quiet
returns-then-is_quiet c =
    quiet-core _ _ _ _ c.args.n _ (search rules) (data-pa-quiet c.args.va) _ c.is_quiet.ensures (search rules) _ _ _ _ _ c.data_pa.ensures
