use Rattle.std.proofs.Common.{rules}
use Rattle.call_words.specs.Ops.{kind_of}
use Rattle.cluster_calls.proofs.Hint.{by-hint}
use Rattle.cluster_calls.proofs.memory.translate.Goals as goal

pub returns-in-Some : goal.returns-in-Some
returns-in-Some c = by-hint _ c.args.n c.args.base _ c.args.va (kind_of c.args.kind) c.served.ensures.four (search rules) c.in-Some.pa _ (search rules)
