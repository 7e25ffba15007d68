-- The runs so far say what the pages so far are answered.
use Rattle.std.proofs.Common.{◌≡◌, take}
use Rattle.windows_report.specs.Runs.{written}
use Rattle.windows_report.proofs.run.runs.Given as goal

abbrev pub invariant-loop-answer : goal.invariant-loop-answer
invariant-loop-answer l = written l.all.items ≡ take l.answer-index l.answers
