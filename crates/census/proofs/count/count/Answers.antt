use Rattle.std.proofs.Common.{refl}
use Rattle.word.specs.Tables.{table}
use Rattle.census.specs.Count.{how_many, census_of}
use Rattle.census.proofs.count.count.Goals as goal

pub loop-i-init : goal.loop-i-init
unfolding census_of table how_many
loop-i-init c = refl
