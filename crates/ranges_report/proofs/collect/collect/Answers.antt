use Rattle.std.proofs.Common.{◌+◌, arith}
use Rattle.word.specs.Ram.{word_at}
use Rattle.ranges_report.specs.Place.{place_at}
use Rattle.ranges_report.proofs.Order.{ordered-none}
use Rattle.ranges_report.proofs.Steps.{maps-nothing}
use Rattle.ranges_report.proofs.collect.collect.Goals as goal

pub returns-then-to-from-clause-maps : goal.returns-then-to-from-clause-maps
returns-then-to-from-clause-maps c =
    rw c.new-ranges.ensures.items
    (maps-nothing (place_at c.args.bank c.args.regime (word_at c.args.base c.args.ram.now 8)) c.args.from (c.args.to + 1) (omega arith))

pub loop-walks-init : goal.loop-walks-init
loop-walks-init c =
    record {
      low = omega arith;
      high = omega arith;
      pages = omega arith;
      maps =
          rw c.new-ranges.ensures.items
          (maps-nothing (place_at c.args.bank c.args.regime (word_at c.args.base c.args.ram.now 8)) c.args.from c.args.from (omega arith));
      ordered = rw c.new-ranges.ensures.items (ordered-none c.args.from);
    }

pub returns-then-to-from-clause-ordered : goal.returns-then-to-from-clause-ordered
returns-then-to-from-clause-ordered c = rw c.new-ranges.ensures.items (ordered-none (c.args.to + 1))
