-- What is counted by the answers is what the claim's definitions count.
use Rattle.std.proofs.Common.{ap, sym, ◌∙◌, ℕ, ◌+◌, ◌%◌}
use Rattle.history.specs.Window.{window_of}
use Rattle.transparency.specs.Steps.{Step}
use Rattle.audit.proofs.Laws.{stale_counted, accesses_counted}
use Rattle.audit.proofs.judged.judge.Goals as goal

pub returns-clause-accesses : goal.returns-clause-accesses
returns-clause-accesses c =
    let s : Step = record { ram = window_of c.args.base c.args.ram.now; call = c.args.call } in
    ap (λ (n : ℕ). (c.args.counts.now.accesses + n) % 18446744073709551616)
    (c.of-counted.ensures.accesses ∙ sym (accesses_counted c.args.core.now s c.answers_to-answers.result c.answers_to-answers.ensures.core))

pub returns-clause-stale : goal.returns-clause-stale
returns-clause-stale c =
    let s : Step = record { ram = window_of c.args.base c.args.ram.now; call = c.args.call } in
    ap (λ (n : ℕ). (c.args.counts.now.stale + n) % 18446744073709551616)
    (c.of-counted.ensures.stale
    ∙ sym (stale_counted c.args.core.now s c.answers_to-answers.result c.answers_to-answers.ensures.core c.answers_to-answers.ensures.fresh))
