-- The counters by level of a core: after reset and any list of calls each holds the number of translations made at its level that an entry
-- answered, or that were walked; and their sums are the Rust's two counters.
use Rattle.std.specs.Prelude.{◌≡◌, List, ℕ, ◌%◌, ◌^◌, ◌<◌}
use Rattle.tlb.specs.Tlb.{tally_at}
use Rattle.history.specs.Calls.{Lent}
use Rattle.history.specs.Instance.{real}
use Rattle.history.specs.Tallies.{by_line, by_walk, how_many, at, rust_after}
use Rattle.transparency.specs.Machine.{machine}
use Rattle.transparency.specs.LevelCounts.{made_by, totals_of}
use Rattle.cpu.specs.declared.Core.{Core}
use Rattle.core_transparency.specs.OnCore.{Made}

abbrev pub hits_on_core : Type 0
hits_on_core =
    (c : Core) (list : List (Lent real machine)) → Made c list → (l : ℕ) → l < 4
    → (tally_at c.tlb l).hits ≡ how_many (at l by_line) (made_by list) % 2 ^ 64

abbrev pub walks_on_core : Type 0
walks_on_core =
    (c : Core) (list : List (Lent real machine)) → Made c list → (l : ℕ) → l < 4
    → (tally_at c.tlb l).walks ≡ how_many (at l by_walk) (made_by list) % 2 ^ 64

abbrev pub sums_on_core : Type 0
sums_on_core =
    (c : Core) (list : List (Lent real machine)) → Made c list
    → totals_of c.tlb ≡ rust_after (made_by list) (record { hits = 0; walks = 0 })
