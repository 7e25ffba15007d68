use Rattle.walk.proofs.WalkBounds.{fresh-leaf}
use Rattle.word.specs.Ram.{word_at}
use Rattle.tlb.specs.Translate.{fresh_answer}
use Rattle.tlb.proofs.Cells.{judged-leaf}
use Rattle.tlb.proofs.fresh.fresh_answer.Goals as goal

pub returns-in-Ended-Ok : goal.returns-in-Ended-Ok
unfolding fresh_answer
returns-in-Ended-Ok c =
    let a = c.args in
    let l = c.in-Ended-Ok in
    let bounds = fresh-leaf a.s a.regime a.va (word_at a.base a.ram.now 8) c.fresh.result l.field-0 l.leaf c.fresh.ensures l.is l.field-0-is in
    rw (← c.fresh.ensures, l.is, l.field-0-is, c.judge.ensures, c.new.ensures) (judged-leaf l.leaf 0 0 a.user a.kind a.va bounds.level-high)
