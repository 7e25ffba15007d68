use Rattle.std.proofs.Common.{◌+◌, ◌≤◌, arith, ap, sym, ◌∙◌}
use Rattle.word.specs.Ram.{word_at}
use Rattle.ranges_report.specs.Place.{Place, place_at, place_of, attributes_of}
use Rattle.ranges_report.proofs.Order.{ordered-later}
use Rattle.ranges_report.proofs.Steps.{maps-some}
use Rattle.ranges_report.proofs.collect.step.Goals as goal

pub returns-in_ok-add-clause-maps : goal.returns-in_ok-add-clause-maps
returns-in_ok-add-clause-maps c from low maps =
    let last = c.min-last.result in
    let leaf = c.in-Ok.leaf in
    let p : Place = record { pa = leaf.oa; attributes = attributes_of leaf } in
    let reach : c.args.at ≤ last = omega (arith, c.new-stretch.ensures.reaches) in
    let said = rw c.new.ensures at c.in_ok-add.ensures.maps in
    maps-some (place_at c.args.bank c.args.regime (word_at c.args.base c.args.ram.now 8)) from c.args.at last low reach
    (λ va h k. c.new-stretch.ensures.holds va h (omega arith)) c.args.ranges.now.items maps p c.add.new.ranges.items
    (ap place_of (sym c.new-stretch.ensures.end ∙ c.in-Ok.is)) (said reach)

pub returns-in_default-clause-ordered : goal.returns-in_default-clause-ordered
returns-in_default-clause-ordered c o =
    ordered-later c.args.at (c.min-last.result + 1) (omega (arith, c.new-stretch.ensures.reaches)) c.args.ranges.now.items o

pub returns-in_ok-add-clause-ordered : goal.returns-in_ok-add-clause-ordered
returns-in_ok-add-clause-ordered c o =
    let reach : c.args.at ≤ c.min-last.result = omega (arith, c.new-stretch.ensures.reaches) in
    (rw c.new.ensures at c.in_ok-add.ensures.ordered) reach o
