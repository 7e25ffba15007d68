use Rattle.core_calls.proofs.Windows.{windows-after, pages-as-stores, one-step}
use Rattle.core_calls.proofs.theorems.every_windows.Goals as goal

pub returns-clause-after : goal.returns-clause-after
returns-clause-after c = windows-after

pub returns-clause-pages : goal.returns-clause-pages
returns-clause-pages c = pages-as-stores

pub returns-clause-step : goal.returns-clause-step
returns-clause-step c = one-step
