use Rattle.std.proofs.Common.{refl, arith}
use Rattle.word.specs.Ram.{word_at}
use Rattle.windows.proofs.Filling.{filled-none, filled-more}
use Rattle.windows.proofs.pages.window_pages.Goals as goal

pub loop-page-init : goal.loop-page-init
loop-page-init c = filled-none c.args.s c.args.regime (word_at c.args.base c.args.ram.now 8) c.args.i c.args.w _ refl

pub loop-page-preserved : goal.loop-page-preserved
loop-page-preserved c =
    filled-more c.args.s c.args.regime (word_at c.args.base c.args.ram.now 8) c.args.i c.args.w c.loop-page.page c.in-Ok.pa c.loop-page.row
    c.fresh_answer.result c.loop-page.invariant (omega arith) c.fresh_answer.ensures c.in-Ok.is
