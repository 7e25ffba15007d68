-- The plain model of the cache, call by call: after every list of calls from the fresh core, whatever RAM is at each
-- step, the core's cache stands for the model that the list's steps make of the empty one, and the next call's answers,
-- counters and what it leaves pending are the model's. The model is that of tlb/specs/Model.antt, its run over steps
-- that of history/specs/ModelRun.antt; the steps are read from the state without a cache and RAM at each step, as the
-- run shows it (Starts.antt).
use Rattle.std.specs.Prelude.{◌≡◌, ◌≤◌}
use mathlib.Core.List.{List}
use Rattle.sysreg.specs.Shape.{asid_of}
use Rattle.tlb.specs.Model.{Model}
use Rattle.tlb.specs.Live.{counters_of, pending_of, live, WellFormed}
use Rattle.tlb.specs.Asks.{Given}
use Rattle.tlb.specs.declared.Tlb.{Tlb}
use Rattle.cpu.specs.Bare.{fresh_bare}
use Rattle.cpu.specs.Core.{fresh_core}
use Rattle.cpu.specs.declared.Core.{Core}
use Rattle.cpu.specs.Step.{step_of}
use Rattle.cpu.specs.declared.call.Call.{Call}
use Rattle.history.specs.History.{Event}
use Rattle.history.specs.ModelRun.{model_run, model_answers_run}
use Rattle.history.specs.Calls.{Lent}
use Rattle.history.specs.Faithful as History
use Rattle.history.specs.ModelList.{model_by, EveryListModelled}
use Rattle.history.specs.Instance.{Ram, real}
use Rattle.transparency.specs.Events.{plain_in}
use Rattle.transparency.specs.Replies.{outcome_of}
use Rattle.transparency.specs.Says.{says_in}
use Rattle.transparency.specs.Starts.{later_in}
use Rattle.transparency.specs.Machine.{machine}
use Rattle.transparency.specs.Beside.{core_after, bare_after, EveryList, EveryCall}
use Rattle.transparency.specs.Faithful.{events_after, answers_after}

-- the steps of a list, and the plain model after them
abbrev pub events_by : List (Lent real machine) → List (Event real)
events_by list = History.events_by real machine fresh_core fresh_bare list

abbrev pub model_after_list : List (Lent real machine) → Model
model_after_list list = model_by real machine fresh_core fresh_bare list

-- and after a call x, on the RAM m, that follows the list; its answers
abbrev pub model_after_call : List (Lent real machine) → Ram → Call → Model
model_after_call list m x = model_run real (plain_in (bare_after list)) (events_after list m x) (model_after_list list)

abbrev pub model_answers_after : List (Lent real machine) → Ram → Call → List Given
model_answers_after list m x =
    model_answers_run real (plain_in (bare_after list)) (events_after list m x) (model_after_list list)

-- the cache after that call
abbrev pub tlb_after_call : List (Lent real machine) → Ram → Call → Tlb
tlb_after_call list m x = (step_of (core_after list) m.base m.bytes x).core.tlb

-- the core's cache stands for the model
abbrev pub every_list_modelled : Type 0
every_list_modelled = EveryListModelled real machine fresh_core fresh_bare

-- EVERY CORE THAT CALLS REACH: its level is 3 at most, its cache is well-formed, and the cache's ASID is that of the
-- registers.

pub record Well (c : Core) : Type 0 where
  pub level : c.privilege.level ≤ 3
  pub cache : WellFormed c.tlb
  pub asid : c.tlb.asid ≡ asid_of c.control

abbrev pub every_core_well : Type 0
every_core_well = EveryList (λ list. Well (core_after list))

-- EVERY CALL, against the plain model.
--   before    the cache stands for the model after the list
--   answers   each answer to each translation of the call is the model's
--   reply     the reply and RAM are made from those answers
--   after     the cache after the call stands for the model after it
--   counts    the counters, those of each level included, are the model's
--   pending   what is pending for other cores is the model's
pub record Modelled (list : List (Lent real machine)) (m : Ram) (x : Call) : Type 0 where
  pub before : live (core_after list).tlb ≡ model_after_list list
  pub answers : answers_after list m x ≡ model_answers_after list m x
  pub reply : outcome_of (core_after list) m x
      ≡ says_in (bare_after list) m (later_in (core_after list) m x) x (model_answers_after list m x)
  pub after : live (tlb_after_call list m x) ≡ model_after_call list m x
  pub counts : counters_of (tlb_after_call list m x) ≡ (model_after_call list m x).counts
  pub pending : pending_of (tlb_after_call list m x).broadcast ≡ (model_after_call list m x).pending

abbrev pub every_call_modelled : Type 0
every_call_modelled = EveryCall Modelled
