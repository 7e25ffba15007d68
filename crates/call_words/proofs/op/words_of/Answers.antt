use Rattle.std.proofs.Common.{arith}
use Rattle.std.proofs.lemmas.Grind.{common_steps}
use Rattle.call_words.specs.Ops.{exception_of, data_abort_of}
use Rattle.call_words.proofs.op.words_of.Goals as goal

pub returns-then-a : goal.returns-then-a
unfolding exception_of data_abort_of
returns-then-a c = grind (arith, common_steps)

pub returns-else-a : goal.returns-else-a
unfolding exception_of data_abort_of
returns-else-a c = grind (arith, common_steps)
