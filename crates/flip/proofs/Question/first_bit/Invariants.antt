-- RAM is whole, and no bit before this one changes the answer.
use Rattle.std.proofs.Common.{◌≡◌}
use Rattle.flip.proofs.Finding.{NoneBelow}
use Rattle.flip.proofs.Question.first_bit.Given as goal

abbrev pub invariant-loop-bit : goal.invariant-loop-bit
invariant-loop-bit l = record { whole : l.ram ≡ l.fn.ram; before : NoneBelow l.self l.base l.fn.ram l.at l.bit }
