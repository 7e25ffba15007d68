use Rattle.std.proofs.Common.{refl}
use Rattle.windows_report.specs.Runs.{written}
use Rattle.windows_report.proofs.run.runs.Goals as goal

pub loop-answer-init : goal.loop-answer-init
unfolding written
loop-answer-init c = rw c.new-all.ensures.items refl
