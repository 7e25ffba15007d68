-- What is left to walk from the loop's state is the whole walk, and what was read with what is left to read all that it reads.
use Rattle.std.specs.Prelude.{length}
use Rattle.std.proofs.Common.{◌≡◌, ◌+◌, ◌-◌}
use Rattle.word.specs.Ram.{word_at}
use Rattle.walk.specs.Table.{walk_from}
use Rattle.walk.specs.Walk.{walked_of, walk_of, fetches_from, fetches_of}
use Rattle.walk.specs.State.{lookup_of, Standing}
use Rattle.walk.proofs.regime.Bank.walk.Given as goal

abbrev pub invariant-levels : goal.invariant-levels
invariant-levels l =
    Standing l.p l.w
    × (walked_of l.p.singlepriv l.p.wxn (walk_from (4 - l.w.level) (word_at l.base l.ram 8) l.p l.va (lookup_of l.p l.w))
    ≡ walk_of l.fn.self l.fn.regime l.va (word_at l.base l.ram 8))
    × (l.reads + length (fetches_from (4 - l.w.level) (word_at l.base l.ram 8) l.p l.va (lookup_of l.p l.w))
    ≡ length (fetches_of l.fn.self l.fn.regime l.va (word_at l.base l.ram 8)))

abbrev pub decreases-levels : goal.decreases-levels
decreases-levels l = 4 - l.w.level
