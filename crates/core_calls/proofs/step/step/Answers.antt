use Rattle.std.proofs.Common.{sym, ap, ◌∙◌}
use Rattle.cpu.specs.Work.{step_work}
use Rattle.core_calls.proofs.Promised.{by-step, of-words-step, unnamed-step}
use Rattle.core_calls.proofs.step.step.Goals as goal

pub returns-in-Known : goal.returns-in-Known
returns-in-Known c =
    let read = c.step-answer.ensures.work ∙ ap (step_work c.args.core.now c.args.base c.args.ram.now c.in-Known.call) c.none-work.ensures in
    of-words-step _ _ _ _ _ _ _ _ _ _ (sym c.call_of.ensures ∙ c.in-Known.is)
    (by-step _ _ _ _ _ _ _ _ _ _ c.step-answer.ensures.core c.step-answer.ensures.ram read c.step_words.ensures)

pub returns-in-Unknown : goal.returns-in-Unknown
returns-in-Unknown c = of-words-step _ _ _ _ _ _ _ _ _ _ (sym c.call_of.ensures ∙ c.in-Unknown.is) (unnamed-step _ _ _ _)
