use Rattle.std.proofs.Common.{refl}
use Rattle.windows_report.proofs.Ends.{step, whole}
use Rattle.windows_report.proofs.report.Row.new.Goals as goal

pub loop-run-preserved : goal.loop-run-preserved
loop-run-preserved c =
    rw c.in_ok-push.ensures.items
    (step c.args.runs.now c.args.window.start c.loop-run.all.items c.loop-run.va c.loop-run.run-index _ _ c.end-end.result
    c.loop-run-test.true (rw c.end-end.ensures refl) c.end-end.ensures c.loop-run.invariant)

pub returns-clause-runs : goal.returns-clause-runs
returns-clause-runs c =
    whole c.args.runs.now c.args.window.start c.loop-run.all.items c.loop-run.va c.loop-run.run-index c.loop-run-test.false
    c.loop-run.invariant
