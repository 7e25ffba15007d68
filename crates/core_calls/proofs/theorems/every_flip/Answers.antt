use Rattle.core_calls.proofs.Flip.{flip-after, flip-by-words, answers-as-translated, flip-is-a-step}
use Rattle.core_calls.proofs.theorems.every_flip.Goals as goal

pub returns-clause-after : goal.returns-clause-after
returns-clause-after c = flip-after

pub returns-clause-words : goal.returns-clause-words
returns-clause-words c = flip-by-words

pub returns-clause-answers : goal.returns-clause-answers
returns-clause-answers c = answers-as-translated

pub returns-clause-step : goal.returns-clause-step
returns-clause-step c = flip-is-a-step
