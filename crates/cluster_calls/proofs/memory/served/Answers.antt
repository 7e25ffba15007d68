use Rattle.std.proofs.Common.{rules, ◌∙◌}
use Rattle.call_words.specs.Ops.{kind_of}
use Rattle.cluster_calls.proofs.Hint.{among-four}
use Rattle.cluster_calls.proofs.memory.served.Goals as goal

pub returns-clause-value : goal.returns-clause-value
returns-clause-value c = c.served_among.ensures ∙ among-four _ c.args.n c.args.base c.args.len c.args.va (kind_of c.args.kind) (search rules) _
