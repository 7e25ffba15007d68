-- The list says where addresses are mapped up to `at`, which is as many pages on as there were walks.
use Rattle.std.proofs.Common.{◌+◌, ◌/◌, ◌^◌, ◌≤◌}
use Rattle.word.specs.Ram.{word_at}
use Rattle.ranges_report.specs.Place.{place_at, Maps, Ordered}
use Rattle.ranges_report.proofs.collect.collect.Given as goal

abbrev pub invariant-loop-walks : goal.invariant-loop-walks
invariant-loop-walks l =
    record {
      low : l.from ≤ l.at;
      high : l.at ≤ l.to;
      pages : l.from / 2 ^ 12 + l.walks ≤ l.at / 2 ^ 12;
      maps : Maps (place_at l.bank l.regime (word_at l.base l.ram 8)) l.from l.at l.ranges.items;
      ordered : Ordered l.at l.ranges.items;
    }
