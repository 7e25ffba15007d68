use Rattle.std.specs.Prelude.{◌+◌}
use Rattle.std.proofs.Common.{sym, ◌∙◌, arith}
use Rattle.windows.specs.Rows.{row_of}
use Rattle.windows.proofs.First.{least-zero}
use Rattle.windows.proofs.Pairing.{meeting_of, none-start, none-more, pair-found, before-more, none-found}
use Rattle.windows.proofs.pairs.first_pair.Goals as goal

pub loop-i-init : goal.loop-i-init
loop-i-init c = least-zero (meeting_of c.args.list.now.count (row_of c.args.list.now.windows c.args.pages.now))

pub loop-k-init : goal.loop-k-init
loop-k-init c = none-start (row_of c.args.list.now.windows c.args.pages.now) c.args.list.now.count c.loop-i.i (c.loop-i.i + 1) (omega arith)

pub returns-then-meet : goal.returns-then-meet
returns-then-meet c =
    pair-found (row_of c.args.list.now.windows c.args.pages.now) c.args.list.now.count c.loop-i.i c.loop-k.k c.loop-i.invariant c.loop-k.invariant
    (omega (arith, c.loop-k.auto.k)) (omega (arith, c.loop-k-test.true)) (sym c.meet.ensures ∙ c.if-meet.true)

pub loop-k-preserved : goal.loop-k-preserved
loop-k-preserved c =
    none-more (row_of c.args.list.now.windows c.args.pages.now) c.args.list.now.count c.loop-i.i c.loop-k.k c.loop-k.invariant
    (sym c.meet.ensures ∙ c.if-meet.false)

pub loop-i-preserved : goal.loop-i-preserved
loop-i-preserved c =
    before-more (row_of c.args.list.now.windows c.args.pages.now) c.args.list.now.count c.loop-i.i c.loop-k.k c.loop-i.invariant c.loop-k.invariant
    (omega (arith, c.loop-k.auto.k, c.loop-k.auto.k-end, c.loop-k-test.false))

pub returns : goal.returns
returns c =
    none-found (row_of c.args.list.now.windows c.args.pages.now) c.args.list.now.count c.loop-i.i c.loop-i.invariant
    (omega (arith, c.loop-i.auto.i-end, c.loop-i-test.false))
