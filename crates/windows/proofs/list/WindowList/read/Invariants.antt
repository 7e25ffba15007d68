-- No window before this one is wrong, and the array begins with them.
use Rattle.windows.proofs.Decoding.{Decoded}
use Rattle.windows.proofs.list.WindowList.read.Given as goal

abbrev pub invariant-loop-i : goal.invariant-loop-i
invariant-loop-i l = Decoded l.list l.count l.i l.windows
