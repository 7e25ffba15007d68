-- What is proved of each of the four cores, after every list of calls on them, whatever RAM is at each.
use Rattle.std.specs.Prelude.{◌≡◌, ℕ, ◌≤◌, List, [], ◌∷◌, ◌++◌}
use Rattle.cpu.specs.Bare.{bare_of}
use Rattle.cpu.specs.declared.{Core.Core, call.Call.Call}
use Rattle.history.specs.Calls.{Bridge, EveryCallFaithful, RepliesByAnswers, SameReplies, InvisibleCalls, run, bare_run}
use Rattle.history.specs.Faithful.{ListShown}
use Rattle.history.specs.Instance.{real}
use Rattle.history.specs.ModelRun.{StandsFor}
use Rattle.history.specs.SeenFrom.{Numbered}
use Rattle.history.specs.Window.{window_of}
use Rattle.transparency.specs.Replies.{outcome}
use Rattle.cluster.specs.Cluster.{core_in, four_after, four_reply, four_ram, Turn, cluster_after, fresh_cluster}
use Rattle.cluster.specs.Faithful.{FaithfulAfter}
use Rattle.cluster.specs.Machines.{core_machine, core_replies, fresh_cores, fresh_bares, model_of, lents}

-- Core k, with its own calls and what the others share: each translation of a settled page is answered as without a
-- cache, replies are by the answers, the same where all pages are settled, and no list without an untold change shows
-- the cache.
abbrev pub each_faithful : Type 0
each_faithful = (k : ℕ) → k ≤ 3 → EveryCallFaithful real (core_machine k) fresh_cores

abbrev pub each_by_answers : Type 0
each_by_answers = (k : ℕ) → k ≤ 3 → RepliesByAnswers real (core_machine k) (core_replies k)

abbrev pub each_same : Type 0
each_same = (k : ℕ) → k ≤ 3 → SameReplies real (core_machine k) (core_replies k) fresh_cores

abbrev pub each_invisible : Type 0
each_invisible = (k : ℕ) → k ≤ 3 → InvisibleCalls real (core_machine k) (core_replies k) fresh_cores

-- and each list of calls is one that this is said of
abbrev pub each_shown : Type 0
each_shown = (k : ℕ) (list : List Turn) → k ≤ 3 → ListShown real (core_machine k) fresh_cores (lents k list)

-- What is said of core k's machine is said of the four cores of the code: after every list, core by core, they are what
-- its run makes of fresh ones; and without their caches, what its run without a cache does.
abbrev pub runs : Type 0
runs =
    (k i : ℕ) (list : List Turn) → k ≤ 3 → i ≤ 3
    → core_in (cluster_after list) i ≡ run real (core_machine k) fresh_cores (lents k list) i

abbrev pub runs_bare : Type 0
runs_bare =
    (k i : ℕ) (list : List Turn) → k ≤ 3 → i ≤ 3
    → bare_of (core_in (cluster_after list) i) ≡ bare_run real (core_machine k) fresh_bares (lents k list) i

-- The events of core k's history say of each call all that it does to core k's registers, level, mark and cache.
abbrev pub each_bridge : Type 0
each_bridge = (k : ℕ) → k ≤ 3 → Bridge real (core_machine k)

-- Core k's cache, counters included, is well-formed and stands for the plain model of its history, receptions included.
abbrev pub each_modelled : Type 0
each_modelled =
    (k : ℕ) (list : List Turn) → k ≤ 3 → StandsFor (core_in (cluster_after list) k).tlb (model_of k list)

-- ONE RAM: each call's RAM is what the call before it left.

-- the list of calls, with RAM as it stands at each; and RAM after them
abbrev pub on_one : List Core → ℕ → List ℕ → List (Numbered Call) → List Turn
on_one cs base bytes [] = []
on_one cs base bytes (x ∷ l) =
    record { number = x.number; ram = window_of base bytes; call = x.call }
    ∷ on_one (four_after cs x.number base bytes x.call) base (four_ram cs x.number base bytes x.call) l

abbrev pub left_by : List Core → ℕ → List ℕ → List (Numbered Call) → List ℕ
left_by cs base bytes [] = bytes
left_by cs base bytes (x ∷ l) =
    left_by (four_after cs x.number base bytes x.call) base (four_ram cs x.number base bytes x.call) l

-- Each call in such a list is faithful for its core.
abbrev pub one_ram : Type 0
one_ram =
    (base : ℕ) (bytes : List ℕ) (calls : List (Numbered Call)) (x : Numbered Call) → x.number ≤ 3 →
    let list = on_one fresh_cluster base bytes calls in
    let ram = left_by fresh_cluster base bytes calls in
    let cs = cluster_after list in
    FaithfulAfter list x.number base ram x.call
    (outcome (four_reply cs x.number base ram x.call) (four_ram cs x.number base ram x.call))

-- A call after a list makes of the four cores what the list with it does.
abbrev pub one_longer : Type 0
one_longer =
    (list : List Turn) (t : Turn)
    → cluster_after (list ++ t ∷ []) ≡ four_after (cluster_after list) t.number t.ram.base t.ram.bytes t.call
