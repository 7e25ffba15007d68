use Rattle.std.proofs.Common.{sym, ap, ◌∙◌, ◌+◌, arith, ℕ, List, map, ◌++◌, ◌∷◌, []}
use Rattle.std.specs.List.{range_with_len}
use Rattle.std.proofs.lemmas.List.FromFn.{map-range_with_len_more}
use Rattle.word.specs.Ram.{word_at}
use Rattle.tlb.specs.Answers.{Answer}
use Rattle.windows_report.specs.Pages.{answer_at}
use Rattle.windows_report.proofs.pages.answers.Goals as goal

pub loop-page-preserved : goal.loop-page-preserved
loop-page-preserved c =
    let f : ℕ → Answer = answer_at c.args.core.now (word_at c.args.base c.args.ram.now 8) c.args.window in
    let page = c.loop-page.page in
    c.in_ok-push.ensures.items
    ∙ ap (λ (l : List Answer). l ++ c.fresh_answer.result ∷ []) c.loop-page.invariant
    ∙ ap (λ (a : Answer). map f (range_with_len 0 page) ++ a ∷ [])
    (rw (c.bank-bank.ensures, c.regime-regime.ensures, c.address-va.ensures) at c.fresh_answer.ensures)
    ∙ sym (map-range_with_len_more f 0 page page (omega arith))
