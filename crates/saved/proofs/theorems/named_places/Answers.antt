use Rattle.saved.proofs.Named.{registers, generals, parts, hints, entries, tallies}
use Rattle.saved.proofs.theorems.named_places.Goals as goal

pub returns-clause-registers : goal.returns-clause-registers
returns-clause-registers c = registers

pub returns-clause-generals : goal.returns-clause-generals
returns-clause-generals c = generals

pub returns-clause-parts : goal.returns-clause-parts
returns-clause-parts c = parts

pub returns-clause-hints : goal.returns-clause-hints
returns-clause-hints c = hints

pub returns-clause-entries : goal.returns-clause-entries
returns-clause-entries c = entries

pub returns-clause-tallies : goal.returns-clause-tallies
returns-clause-tallies c = tallies
