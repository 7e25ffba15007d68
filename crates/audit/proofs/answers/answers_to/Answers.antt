-- Each answer stands beside that of the core without a cache.
use Rattle.std.proofs.Common.{◌∙◌, ap}
use Rattle.tlb.specs.Live.{done, more}
use Rattle.cpu.specs.declared.Core.{Core}
use Rattle.history.specs.Window.{window_of}
use Rattle.audit.proofs.Laws.{fresh-at}
use Rattle.audit.specs.Answers.{fresh_answer}
use Rattle.audit.proofs.answers.answers_to.Goals as goal

pub returns-then-is_err-clause-fresh : goal.returns-then-is_err-clause-fresh
returns-then-is_err-clause-fresh c =
    more
    (fresh-at c.args.core.now (window_of c.args.base c.args.ram.now) c.answer-first.result _ c.answer-first.ensures.ask
    c.answer-first.ensures.fresh) done

pub returns-in-Nothing-clause-fresh : goal.returns-in-Nothing-clause-fresh
returns-in-Nothing-clause-fresh c = done

pub returns-in-One-clause-fresh : goal.returns-in-One-clause-fresh
returns-in-One-clause-fresh c =
    more
    (fresh-at c.args.core.now (window_of c.args.base c.args.ram.now) c.answer.result _ c.answer.ensures.ask c.answer.ensures.fresh)
    done

pub returns-else-is_err-clause-fresh : goal.returns-else-is_err-clause-fresh
returns-else-is_err-clause-fresh c =
    let m = window_of c.args.base c.args.ram.now in
    more (fresh-at c.args.core.now m c.answer-first.result _ c.answer-first.ensures.ask c.answer-first.ensures.fresh)
    (more (fresh-at c.args.core.now m c.answer-in-Two.result _ c.answer-in-Two.ensures.ask
    (c.answer-in-Two.ensures.fresh ∙ ap (λ (x : Core). fresh_answer x m c.in-Two.next) c.answer-first.ensures.after)) done)
