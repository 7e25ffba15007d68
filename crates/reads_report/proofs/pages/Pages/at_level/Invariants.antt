-- The sum of the rows so far.
use Rattle.std.proofs.Common.{◌≡◌, take}
use Rattle.reads_report.specs.Rows.{of_level}
use Rattle.reads_report.proofs.pages.Pages.at_level.Given as goal

abbrev pub invariant-loop-row : goal.invariant-loop-row
invariant-loop-row l = l.sum ≡ of_level l.level (take l.row-index l.row-items)
