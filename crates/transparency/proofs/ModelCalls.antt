-- The plain model of the cache, call by call: after every list of calls from the fresh core, whatever RAM is at each
-- step, the core's cache stands for the model that the list's steps make of the empty one, and the next call's answers,
-- counters and what it leaves pending are the model's. The model is that of tlb/specs/Model.antt, its run over steps
-- that of history/specs/ModelRun.antt; the steps are read from the state without a cache and RAM at each step, as the
-- run shows it (Starts.antt).
use Rattle.std.proofs.Common.{rules, arith}
use Rattle.std.specs.Prelude.{◌≡◌, ◌≤◌, length}
use Rattle.std.proofs.Math.Path.{refl, subst}
use mathlib.Core.List.{List}
use Rattle.tlb.specs.Tlb.{fresh}
use Rattle.tlb.specs.Live.{live}
use Rattle.cpu.specs.Bare.{Bare, fresh_bare, bare_of}
use Rattle.cpu.specs.Core.{fresh_core}
use Rattle.cpu.specs.declared.call.Call.{Call}
use Rattle.history.specs.History.{plain_run, tlb_run}
use Rattle.history.proofs.Lists.{run-low}
use Rattle.history.proofs.Theorem.{history-asid, history-well}
use Rattle.history.specs.ModelRun.{StandsFor}
use Rattle.history.proofs.ModelLaws.{run-stands, answers-run-live}
use Rattle.history.specs.Calls.{Lent}
use Rattle.history.proofs.Faithful.{plain-by, tlb-by}
use Rattle.history.proofs.Faithful.{every-list-modelled as list-modelled}
use Rattle.history.specs.Instance.{Ram, real}
use Rattle.history.proofs.Instance.{real-laws, fresh-asid}
use Rattle.transparency.specs.Events.{plain_in}
use Rattle.transparency.specs.Replies.{outcome_of}
use Rattle.transparency.specs.Says.{says_in}
use Rattle.transparency.specs.Starts.{later_in}
use Rattle.transparency.specs.Machine.{machine}
use Rattle.transparency.proofs.Bridge.{bridge, fits}
use Rattle.transparency.specs.Beside.{core_after, bare_after}
use Rattle.transparency.proofs.Beside.{two-cores}
use Rattle.transparency.specs.Faithful.{events_after, answers_after, FaithfulCall}
use Rattle.transparency.proofs.Faithful.{faithful-step}
use Rattle.transparency.specs.ModelCalls.{events_by, model_after_list, model_after_call, model_answers_after, tlb_after_call, Modelled}
use Rattle.transparency.specs.ModelCalls as Statement

module _ (list : List (Lent real machine)) where
  tlb-run : (core_after list).tlb ≡ tlb_run real (plain_in fresh_bare) (events_by list) fresh
  unfolding fresh_core
  tlb-run = tlb-by real machine bridge fresh_core list

  plain-run : plain_in (bare_of (core_after list)) ≡ plain_run real (plain_in fresh_bare) (events_by list)
  unfolding fresh_core
  plain-run = plain-by real machine bridge fresh_core list

pub every-list-modelled : Statement.every_list_modelled
unfolding fresh_core
every-list-modelled = list-modelled real machine bridge real-laws fresh_core refl fresh-asid (omega arith)

-- EVERY CORE THAT CALLS REACH: its level is 3 at most, its cache is well-formed, and the cache's ASID is that of the
-- registers.

pub every-core-well : Statement.every_core_well
every-core-well list = grind (arith, plain-run, run-low, tlb-run, history-well, real-laws, fresh-asid, history-asid)

module _ (list : List (Lent real machine)) (m : Ram) (x : Call) where
  pub low-now : (plain_in (bare_after list)).privilege.level ≤ 3
  low-now = subst (λ (b : Bare). b.privilege.level ≤ 3) (two-cores list) (every-core-well list).level

  tlb-then : tlb_after_call list m x ≡ tlb_run real (plain_in (bare_after list)) (events_after list m x) (core_after list).tlb
  tlb-then = grind (arith, two-cores, fits)

  stands-then : StandsFor (tlb_after_call list m x) (model_after_call list m x)
  stands-then = search (rules, tlb-then, run-stands, real-laws, low-now, every-list-modelled)

  model-then : live (tlb_after_call list m x) ≡ model_after_call list m x
  model-then = stands-then.is

  answers-then : answers_after list m x ≡ model_answers_after list m x
  answers-then = answers-run-live real real-laws (events_after list m x) (plain_in (bare_after list)) low-now (every-list-modelled list)

  said-then : outcome_of (core_after list) m x ≡ says_in (bare_after list) m (later_in (core_after list) m x) x (answers_after list m x)
  unfolding FaithfulCall
  said-then = (faithful-step (core_after list) m.base m.bytes x _ _ refl refl list refl).answered

  pub every-call-modelled : Modelled list m x
  every-call-modelled = grind (arith, every-list-modelled, answers-then, said-then, model-then)

  -- the counters are of four levels
  pub levels-after : length (tlb_after_call list m x).levels ≡ 4
  levels-after = stands-then.well.levels

pub levels-now : (list : List (Lent real machine)) → length (core_after list).tlb.levels ≡ 4
levels-now list = (every-core-well list).cache.levels
