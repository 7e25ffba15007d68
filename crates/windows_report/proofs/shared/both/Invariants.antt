-- What the pages so far share, and what is left.
use Rattle.std.proofs.Common.{◌≡◌, ◌++◌, drop}
use Rattle.windows_report.specs.Shared.{shared_from}
use Rattle.windows_report.proofs.shared.both.Given as goal

abbrev pub invariant-loop-page : goal.invariant-loop-page
invariant-loop-page l = shared_from 0 l.first l.second ≡ l.all.items ++ shared_from l.page (drop l.page l.first) l.second
