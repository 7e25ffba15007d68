use Rattle.std.proofs.Common.{arith}
use Rattle.windows.proofs.Decoding.{decoded-none, decoded-more}
use Rattle.windows.proofs.list.WindowList.read.Goals as goal

pub loop-i-init : goal.loop-i-init
loop-i-init c = decoded-none c.args.list.now c.in_ok-count.count

pub loop-i-preserved : goal.loop-i-preserved
loop-i-preserved c =
    let h = c.in_ok-count.ensures.right.few in
    decoded-more c.args.list.now c.in_ok-count.count c.loop-i.i c.loop-i.windows c.window_at-w.result c.wrong.result c.loop-i.invariant
    (omega (arith, c.loop-i-test.true, h)) c.window_at-w.ensures c.wrong.ensures c.in_default.is
