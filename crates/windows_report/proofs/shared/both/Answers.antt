use Rattle.std.proofs.Common.{sym, ap, ◌∙◌, ◌++◌, List, Some, None}
use Rattle.std.proofs.lemmas.List.{append-nil}
use Rattle.windows_report.proofs.Sharing.{left, step, whole}
use Rattle.windows_report.specs.declared.shared.Shared.{Shared}
use Rattle.windows_report.proofs.shared.both.Goals.{in-Some+in_ok-push, in_default}
use Rattle.windows_report.proofs.shared.both.Goals as goal

pub loop-page-preserved : goal.loop-page-preserved
loop-page-preserved c =
    let f = c.args.first.now in
    let s = c.args.second.now in
    let j = c.loop-page.page in
    let all = c.loop-page.all.items in
    elim c.match-new.branch [
      | in-Some+in_ok-push w ↦
          rw (w.all-is, w.in_ok-push.ensures.items)
          (step f s all j _ (Some w.in-Some.shared) c.loop-page-test.true (sym w.in-Some.is ∙ c.new.ensures) c.loop-page.invariant)
      | in_default w ↦
          rw w.all-is
          (rw append-nil at (step f s all j _ None c.loop-page-test.true (sym w.in_default.is ∙ c.new.ensures) c.loop-page.invariant))
    ]

pub returns : goal.returns
returns c = whole c.args.first.now c.args.second.now c.loop-page.all.items c.loop-page.page c.loop-page-test.false c.loop-page.invariant
