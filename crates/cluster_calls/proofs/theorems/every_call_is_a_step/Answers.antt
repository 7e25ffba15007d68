use Rattle.cluster_calls.proofs.Meaning.{calls-are-steps}
use Rattle.cluster_calls.proofs.theorems.every_call_is_a_step.Goals as goal

pub returns : goal.returns
returns c = record { steps = calls-are-steps }
