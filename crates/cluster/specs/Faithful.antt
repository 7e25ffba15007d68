-- Faithfulness as a promise of one call on one of the four cores: what a clause of its contract says.
use Rattle.std.specs.Prelude.{◌≡◌, ℕ, List, Some, ◌≤◌}
use Rattle.cpu.specs.declared.{Core.Core, call.Call.Call, call.Reply.Reply}
use Rattle.history.specs.Faithful.{Faithful}
use Rattle.history.specs.Instance.{real}
use Rattle.history.specs.Window.{window_of}
use Rattle.transparency.specs.Replies.{Outcome, outcome}
use Rattle.cluster.specs.Cluster.{Turn, cluster_after}
use Rattle.cluster.specs.Machines.{core_machine, core_replies, core_says, fresh_cores, fresh_bares, numbered, lents}

-- A call x on core n after a list of calls, on the RAM of these bytes; o is its reply with the bytes after it. They are
-- made from the answers to the call's translations, each faithful where its page is settled by core n's history, and
-- are those of the core without a cache where all pages are.
abbrev pub FaithfulAfter : List Turn → ℕ → ℕ → List ℕ → Call → Outcome → Type 0
FaithfulAfter list n base bytes x o =
    Faithful real (core_machine n) fresh_cores fresh_bares (core_replies n) (core_says n) (lents n list) (window_of base bytes)
    (numbered n x) (Some o)

-- Whatever list of calls left these four cores. A number above 3 is of no core, and nothing is asked of it here.
unfoldable pub FaithfulFour : List Core → ℕ → ℕ → List ℕ → Call → Reply → List ℕ → Type 0
FaithfulFour cs n base bytes x reply after =
    n ≤ 3 → (list : List Turn) → cs ≡ cluster_after list → FaithfulAfter list n base bytes x (outcome reply after)
