-- The sums of the rows so far.
use Rattle.std.proofs.Common.{◌≡◌, take}
use Rattle.reads_report.specs.Rows.{operations_in, descriptors_in}
use Rattle.reads_report.proofs.rows.Sums.of.Given as goal

abbrev pub invariant-loop-row : goal.invariant-loop-row
invariant-loop-row l = record {
  operations : l.operations ≡ operations_in (take l.row-index l.rows);
  descriptors : l.descriptors ≡ descriptors_in (take l.row-index l.rows);
}
