use Rattle.quick.proofs.translation.reached.Goals as goal

pub returns : goal.returns
returns c = record { number = (c.told.ensures 0).0; value = (c.told.ensures 0).1; reads = (c.told.ensures 0).2 }
