-- Each of the four cores as a machine of the theory of histories: its history has its own calls, and of each other core's
-- call what that shares.
use Rattle.std.specs.Prelude.{refl, ℕ, List, [], ◌∷◌}
use Rattle.tlb.specs.Model.{Model}
use Rattle.cpu.specs.Bare.{Bare, fresh_bare}
use Rattle.cpu.specs.Core.{fresh_core}
use Rattle.cpu.specs.declared.{Core.Core, call.Call.Call}
use Rattle.history.specs.Calls.{Machine, Lent, Replies}
use Rattle.history.specs.Faithful.{Says}
use Rattle.history.specs.Instance.{real}
use Rattle.history.specs.ModelList.{model_by}
use Rattle.history.specs.SeenFrom.{Sharing, Numbered, seen_from, seen_replies, seen_says}
use Rattle.transparency.specs.Instance.{replies}
use Rattle.transparency.specs.Machine.{machine}
use Rattle.transparency.specs.Says.{says_in}
use Rattle.cluster.specs.Cluster.{unmarked, told, Turn}
use Rattle.cluster.specs.Shared.{shared_in}

-- what a call shares, what another core does with it, and the caller's mark cleared
abbrev pub sharing : Sharing real machine
sharing =
    record {
      shared = shared_in;
      hear = told;
      settle = unmarked;
      hear-bare = λ what c. refl;
      hear-tlb = λ what c. refl;
      settle-bare = λ c. refl;
      settle-tlb = λ c. refl;
    }

-- the core k among the four, what it replies, and how that is made from its answers
abbrev pub core_machine : ℕ → Machine real
core_machine k = seen_from real machine sharing k

abbrev pub core_replies : (k : ℕ) → Replies real (core_machine k)
core_replies k = seen_replies real machine sharing k replies

abbrev pub core_says : (k : ℕ) → Says real (core_machine k) (core_replies k)
core_says k = seen_says real machine sharing k replies says_in

-- the cores by their numbers, all fresh; and without their caches
abbrev pub fresh_cores : ℕ → Core
fresh_cores i = fresh_core

abbrev pub fresh_bares : ℕ → Bare
fresh_bares i = fresh_bare

-- a list of calls, as that machine is lent it
abbrev pub numbered : ℕ → Call → Numbered Call
numbered n x = record { number = n; call = x }

abbrev pub lents : (k : ℕ) → List Turn → List (Lent real (core_machine k))
lents k [] = []
lents k (t ∷ l) = record { ram = t.ram; call = numbered t.number t.call } ∷ lents k l

-- the plain model of core k's history
abbrev pub model_of : ℕ → List Turn → Model
model_of k l = model_by real (core_machine k) fresh_cores fresh_bares (lents k l)
