use Rattle.core_transparency.proofs.ReportReads.{reads-on-core, step-reads-on-core}
use Rattle.core_transparency.proofs.theorems.reads_on_core.Goals as goal

pub returns-clause-report : goal.returns-clause-report
returns-clause-report c = reads-on-core

pub returns-clause-step : goal.returns-clause-step
returns-clause-step c = step-reads-on-core
