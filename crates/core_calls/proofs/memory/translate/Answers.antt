use Rattle.call_words.specs.Ops.{kind_of}
use Rattle.core_calls.proofs.Said.{translation-said}
use Rattle.core_calls.proofs.memory.translate.Goals as goal

pub returns : goal.returns
returns c = translation-said (kind_of c.args.kind) _ _ _ _ _ _ _ _ c.translate.ensures
