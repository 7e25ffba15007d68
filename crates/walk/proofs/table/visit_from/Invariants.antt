-- The table after those still left, from the loop's state, is the one asked for.
use Rattle.std.proofs.Common.{◌≡◌}
use Rattle.word.specs.Ram.{word_at}
use Rattle.walk.specs.State.{lookup_of, Standing, visit_from}
use Rattle.walk.proofs.table.visit_from.Given as goal

abbrev pub invariant-levels : goal.invariant-levels
invariant-levels l =
    Standing l.p l.w
    × (visit_from l.left (word_at l.base l.ram 8) l.p l.va (lookup_of l.p l.w)
    ≡ visit_from l.fn.n (word_at l.base l.ram 8) l.p l.va (lookup_of l.p l.fn.first))

abbrev pub decreases-levels : goal.decreases-levels
decreases-levels l = l.left
