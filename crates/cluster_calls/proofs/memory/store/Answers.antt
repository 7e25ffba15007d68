use Rattle.std.proofs.Common.{rules}
use Rattle.cluster_calls.proofs.OnCore.{quiet-core}
use Rattle.cluster_calls.proofs.Quiet.{store-quiet}
use Rattle.cluster_calls.proofs.memory.store.Goals as goal

pub returns-then-is_quiet : goal.returns-then-is_quiet
returns-then-is_quiet c =
    quiet-core _ _ _ _ c.args.n _ (search rules) (store-quiet c.args.va c.args.size c.args.value) _ c.is_quiet.ensures (search rules) _ _ _ _ _ c.store.ensures
