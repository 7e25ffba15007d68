use Rattle.std.proofs.Common.{refl, arith}
use Rattle.std.proofs.lemmas.Bool.{false≢true}
use Rattle.ranges_report.proofs.Lists.{join-added}
use Rattle.ranges_report.proofs.Order.{ordered-join, ordered-push, ordered-first}
use Rattle.ranges_report.proofs.map.add.Goals as goal

pub returns-in_default-clause-ordered : goal.returns-in_default-clause-ordered
returns-in_default-clause-ordered c ends o =
    rw c.in_ok-push.ensures.items
    (ordered-first c.args.next ends c.pop.new.self.items (omega (arith, c.pop.new.self.ok.0, c.in_default.ensures.cases.1)))

pub returns-then-joins-clause-maps : goal.returns-then-joins-clause-maps
returns-then-joins-clause-maps c ends va =
    rw (c.in_ok-push-2.ensures.items, c.in-Some.ensures.items)
    (join-added c.in-Some.before c.args.next (c.if-joins.ensures.0 refl) ends va c.pop.new.self.items)

pub returns-then-joins-clause-ordered : goal.returns-then-joins-clause-ordered
returns-then-joins-clause-ordered c ends o =
    rw c.in_ok-push-2.ensures.items (ordered-join c.in-Some.before c.args.next ends c.pop.new.self.items (rw c.in-Some.ensures.items at o))

pub returns-clause-ordered : goal.returns-clause-ordered
returns-clause-ordered c ends o =
    rw (c.in_ok-push-4.ensures.items, c.in_ok-push-3.ensures.items)
    (ordered-push c.in-Some.before c.args.next ends (λ j. false≢true (c.if-joins.ensures.1 j)) c.pop.new.self.items
    (rw c.in-Some.ensures.items at o))
