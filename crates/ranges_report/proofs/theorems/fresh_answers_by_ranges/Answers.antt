use Rattle.ranges_report.proofs.Fresh.{fresh-by-map}
use Rattle.ranges_report.proofs.theorems.fresh_answers_by_ranges.Goals as goal

pub returns : goal.returns
returns c = fresh-by-map
