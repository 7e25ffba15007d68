use Rattle.std.proofs.Common.{rules}
use Rattle.call_words.specs.Ops.{kind_of}
use Rattle.cluster_calls.proofs.OnCore.{quiet-core}
use Rattle.cluster_calls.proofs.Quiet.{translate-quiet}
use Rattle.cluster_calls.proofs.memory.translate_rest.Goals as goal

pub returns-then-is_quiet : goal.returns-then-is_quiet
returns-then-is_quiet c =
    quiet-core _ _ _ _ c.args.n _ (search rules) (translate-quiet (kind_of c.args.kind) c.args.va) _ c.is_quiet.ensures (search rules) _ _ _ _ _ c.translate.ensures
