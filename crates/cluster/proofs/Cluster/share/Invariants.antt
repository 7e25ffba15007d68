-- The cores below `j` have heard.
use Rattle.std.proofs.Common.{◌≡◌}
use Rattle.cluster.proofs.Telling.{told_below}
use Rattle.cluster.proofs.Cluster.share.Given as goal

abbrev pub invariant-loop-j : goal.invariant-loop-j
invariant-loop-j l = record { told : l.self.cores ≡ told_below l.j l.fn.self.cores l.i l.what }
