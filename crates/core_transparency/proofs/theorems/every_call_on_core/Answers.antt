use Rattle.core_transparency.specs.OnCore.{faithful-on-core, faithful-step-on-core, census-on-core, windows-on-core, flip-on-core}
use Rattle.core_transparency.proofs.theorems.every_call_on_core.Goals as goal

pub returns-clause-call : goal.returns-clause-call
returns-clause-call c = faithful-on-core

pub returns-clause-step : goal.returns-clause-step
returns-clause-step c = faithful-step-on-core

pub returns-clause-census : goal.returns-clause-census
returns-clause-census c = census-on-core

pub returns-clause-windows : goal.returns-clause-windows
returns-clause-windows c = windows-on-core

pub returns-clause-flip : goal.returns-clause-flip
returns-clause-flip c = flip-on-core
