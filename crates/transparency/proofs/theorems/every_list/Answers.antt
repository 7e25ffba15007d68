use Rattle.transparency.proofs.Claim.{every-list, same-premise, every-step-replies, answered-step}
use Rattle.transparency.proofs.Steps.{steps-are-calls, parts-follow, parts-end}
use Rattle.transparency.proofs.theorems.every_list.Goals as goal

pub returns : goal.returns
returns c = assumption (every-list, every-step-replies, answered-step, steps-are-calls, parts-follow, parts-end, same-premise)
