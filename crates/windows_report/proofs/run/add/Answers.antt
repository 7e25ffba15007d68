use Rattle.std.proofs.Common.{refl, ◌++◌, ◌∷◌, []}
use Rattle.std.proofs.lemmas.List.{append-nil}
use Rattle.windows_report.proofs.Runs.{pushed, grown}
use Rattle.windows_report.proofs.run.add.Goals as goal

pub returns-in_default : goal.returns-in_default
returns-in_default c =
    rw (c.in_ok-push.ensures.items, c.in_default.ensures.items, append-nil c.pop.new.self.items) (pushed c.pop.new.self.items c.args.next)

pub returns-then-goes_on : goal.returns-then-goes_on
returns-then-goes_on c =
    rw (c.in_ok-push-2.ensures.items, c.in-Some.ensures.items)
    (grown c.pop.new.self.items c.in-Some.before c.args.next (c.if-goes_on.ensures.0 refl).1)

pub returns : goal.returns
returns c =
    rw (c.in_ok-push-4.ensures.items, c.in_ok-push-3.ensures.items, c.in-Some.ensures.items)
    (pushed (c.pop.new.self.items ++ c.in-Some.before ∷ []) c.args.next)
