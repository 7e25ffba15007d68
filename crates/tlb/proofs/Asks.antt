-- One answer, whether the translation went on or not.
use Rattle.std.proofs.Common.{arith}
use Rattle.std.specs.Prelude.{◌≡◌}
use Rattle.tlb.specs.Answers.{Answer}
use Rattle.tlb.specs.Asks.{onward}

pub onward-same : {A : Type 0} (a : Answer) (x : A) → onward a x x ≡ x
onward-same a x = grind arith
