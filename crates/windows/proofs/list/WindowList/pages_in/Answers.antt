use Rattle.std.proofs.Common.{refl, arith}
use Rattle.std.proofs.lemmas.Result.{err_from_is_err_and}
use Rattle.word.specs.Ram.{word_at}
use Rattle.windows.proofs.Gathering.{gathered-none, gathered-more, gathered-fault, gathered-clear, gathered-rows}
use Rattle.windows.proofs.list.WindowList.pages_in.Goals as goal

pub loop-i-init : goal.loop-i-init
loop-i-init c = gathered-none c.args.s c.args.regime (word_at c.args.base c.args.ram.now 8) c.args.self.now.windows _ refl

pub loop-i-preserved : goal.loop-i-preserved
loop-i-preserved c =
    gathered-more c.args.s c.args.regime (word_at c.args.base c.args.ram.now 8) c.args.self.now.windows c.loop-i.i c.loop-i.rows c.in_ok-rows.field-0
    c.loop-i.invariant (omega arith) c.in_ok-rows.ensures.none c.in_ok-rows.ensures.pages

pub returns-in_err-rows-clause-fault : goal.returns-in_err-rows-clause-fault
returns-in_err-rows-clause-fault c =
    let p = err_from_is_err_and c.from_residual.result c.from_residual.ensures.1 in
    rw (p.1, p.2)
    (gathered-fault c.args.s c.args.regime (word_at c.args.base c.args.ram.now 8) c.args.self.now.windows c.args.self.now.count (omega arith) c.loop-i.i
    c.loop-i.rows c.in_err-rows.field-0.0 c.loop-i.invariant (omega arith) c.in_err-rows.ensures.fault)

pub returns-clause-none : goal.returns-clause-none
returns-clause-none c =
    gathered-clear c.args.s c.args.regime (word_at c.args.base c.args.ram.now 8) c.args.self.now.windows c.args.self.now.count (omega arith) c.loop-i.i
    c.loop-i.rows c.loop-i.invariant (omega (arith, c.loop-i.auto.i-end, c.loop-i-test.false))

pub returns-clause-pages : goal.returns-clause-pages
returns-clause-pages c =
    gathered-rows c.args.s c.args.regime (word_at c.args.base c.args.ram.now 8) c.args.self.now.windows c.args.self.now.count (omega arith) c.loop-i.i
    c.loop-i.rows c.loop-i.invariant (omega (arith, c.loop-i.auto.i-end, c.loop-i-test.false))
