-- A cell begins where the cells before it end.
use Rattle.std.proofs.Common.{◌≡◌, ◌*◌, min}
use Rattle.census_report.proofs.grid.Grid.fill.Given as goal

abbrev pub invariant-loop-cell : goal.invariant-loop-cell
invariant-loop-cell l = l.from ≡ min (l.cell-index * l.self.per) l.self.pages
