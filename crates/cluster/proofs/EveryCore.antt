-- Each of the four cores, after every list of calls.
use Rattle.std.specs.Prelude.{◌≡◌, refl, ℕ, List, [], ◌∷◌, ◌++◌}
use Rattle.std.proofs.Common.{sym, ap, ◌∙◌, subst}
use Rattle.tlb.specs.declared.Tlb.{Tlb}
use Rattle.cpu.specs.Bare.{Bare, bare_of}
use Rattle.cpu.specs.Core.{fresh_core}
use Rattle.cpu.specs.declared.Core.{Core}
use Rattle.history.specs.Calls.{run}
use Rattle.history.specs.Delivered.{unpending}
use Rattle.history.specs.Instance.{real}
use Rattle.history.specs.ModelRun.{StandsFor}
use Rattle.history.proofs.EveryCall.{run-bare}
use Rattle.history.proofs.Faithful.{list-shown}
use Rattle.cluster.specs.Cluster.{core_in, four_after, fresh_cluster, Turn, cluster_run, cluster_after}
use Rattle.cluster.specs.Faithful.{FaithfulFour}
use Rattle.cluster.specs.Machines.{core_machine, fresh_cores, model_of, lents}
use Rattle.cluster.specs.EveryCore as Statement
use Rattle.cluster.proofs.Faithful.{core-bridge, every-translation, same-answers, every-reply, invisible-lists, every-model, faithful_four}
use Rattle.cluster.proofs.Runs.{same-after, quiet-after}

pub each-faithful : Statement.each_faithful
each-faithful k h = every-translation k

pub each-by-answers : Statement.each_by_answers
each-by-answers k h = same-answers k

pub each-same : Statement.each_same
each-same k h = every-reply k

pub each-invisible : Statement.each_invisible
each-invisible k h = invisible-lists k

pub each-shown : Statement.each_shown
each-shown k list h = list-shown real (core_machine k) fresh_cores (lents k list)

pub each-bridge : Statement.each_bridge
each-bridge k h = core-bridge k

pub runs : Statement.runs
runs k i list h low = ap (λ (f : ℕ → Core). f i) (same-after k list)

pub runs-bare : Statement.runs_bare
unfolding fresh_core
runs-bare k i list h low =
    ap bare_of (runs k i list h low) ∙ ap (λ (f : ℕ → Bare). f i) (run-bare real (core_machine k) (core-bridge k) fresh_cores (lents k list))

-- a cache without a mark is the one that the machine of its core sees
seen-tlb : (k : ℕ) (list : List Turn)
    → (core_machine k).tlb (run real (core_machine k) fresh_cores (lents k list)) ≡ (core_in (cluster_after list) k).tlb
seen-tlb k list =
    ap (λ (f : ℕ → Core). unpending (f k).tlb) (sym (same-after k list))
    ∙ (λ i. record (core_in (cluster_after list) k).tlb { broadcast = sym ((quiet-after list).quiet k) i })

pub each-modelled : Statement.each_modelled
each-modelled k list h = subst (λ (t : Tlb). StandsFor t (model_of k list)) (seen-tlb k list) (every-model k (lents k list))

pub one-ram : Statement.one_ram
unfolding FaithfulFour
one-ram base bytes calls x h = faithful_four _ x.number base _ x.call _ _ refl refl h _ refl

longer-from : (list : List Turn) (t : Turn) (cs : List Core)
    → cluster_run cs (list ++ t ∷ []) ≡ four_after (cluster_run cs list) t.number t.ram.base t.ram.bytes t.call
longer-from [] t cs = refl
longer-from (x ∷ l) t cs = longer-from l t (four_after cs x.number x.ram.base x.ram.bytes x.call)

pub one-longer : Statement.one_longer
one-longer list t = longer-from list t fresh_cluster
