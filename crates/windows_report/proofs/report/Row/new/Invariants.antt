-- The runs so far, and those that are left from the address on.
use Rattle.std.proofs.Common.{◌≡◌, ◌++◌, drop}
use Rattle.windows_report.specs.Rows.{rows_from}
use Rattle.windows_report.proofs.report.Row.new.Given as goal

abbrev pub invariant-loop-run : goal.invariant-loop-run
invariant-loop-run l = rows_from l.window.start l.runs ≡ l.all.items ++ rows_from l.va (drop l.run-index l.runs)
