use Rattle.std.proofs.Common.{sym, ◌∙◌}
use Rattle.cluster_calls.proofs.Steps.{step-on, step-none, step-off}
use Rattle.cluster_calls.proofs.step.step.Goals as goal

pub returns-in-Known : goal.returns-in-Known
returns-in-Known c =
    step-on _ _ _ c.args.n c.core.result _ _ c.in-Known.call _ _ _ _ _ _ _ c.core.ensures c.in-Ok.is (sym c.call_of.ensures ∙ c.in-Known.is)
    c.step-answer.ensures.cores c.step-answer.ensures.reply c.step-answer.ensures.ram c.step-answer.ensures.work c.none-work.ensures c.step_words.ensures

pub returns-in-Unknown : goal.returns-in-Unknown
returns-in-Unknown c = step-none _ _ _ c.args.n c.core.result _ _ _ c.core.ensures c.in-Ok.is (sym c.call_of.ensures ∙ c.in-Unknown.is)

pub returns-in-Err : goal.returns-in-Err
returns-in-Err c = step-off _ _ _ c.args.n c.core.result c.in-Err.missed _ _ _ c.core.ensures c.in-Err.is c.number.ensures
