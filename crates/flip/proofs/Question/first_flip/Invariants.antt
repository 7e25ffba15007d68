-- RAM is whole, and what is found is what the descriptors from this one on give.
use Rattle.std.proofs.Common.{◌≡◌}
use Rattle.flip.specs.Flip.{first_flip}
use Rattle.flip.proofs.Finding.{rest_from}
use Rattle.flip.proofs.Question.first_flip.Given as goal

abbrev pub invariant-loop-n : goal.invariant-loop-n
invariant-loop-n l = record { whole : l.ram ≡ l.fn.ram; rest : first_flip l.self l.base l.fn.ram ≡ rest_from l.self l.base l.fn.ram l.n }
