-- Faithfulness as a promise of one call: what the second clause of its contract says. The record and its terms are those
-- of any machine: history/specs/Faithful.antt.
use Rattle.std.specs.Prelude.{◌≡◌, ℕ}
use mathlib.Core.List.{List}
use Rattle.tlb.specs.Asks.{Given}
use Rattle.cpu.specs.Bare.{fresh_bare}
use Rattle.cpu.specs.Core.{fresh_core}
use Rattle.cpu.specs.declared.Core.{Core}
use Rattle.cpu.specs.Step.{step_of, ram_after, Stepped}
use Rattle.cpu.specs.declared.call.Call.{Call}
use Rattle.history.specs.History.{Event}
use Rattle.history.specs.Calls.{Lent, Fed}
use Rattle.history.specs.Faithful as History
use Rattle.history.specs.Faithful.{ListShown}
use Rattle.history.specs.Instance.{Ram, window_of, real}
use Rattle.transparency.specs.Machine.{machine}
use Rattle.transparency.specs.Instance.{replies}
use Rattle.transparency.specs.Replies.{Outcome, outcome}
use Rattle.transparency.specs.Says.{says_in}
use Rattle.transparency.specs.Beside.{core_after, EveryList}

-- the list, each call with RAM at its steps as the run from the fresh core shows it
abbrev pub fed_by : List (Lent real machine) → List (Fed real machine)
fed_by list = History.fed_by real machine fresh_core fresh_bare list

-- the steps of a call after the list
abbrev pub events_after : List (Lent real machine) → Ram → Call → List (Event real)
events_after list m x = History.events_after real machine fresh_core fresh_bare list m x

-- the answers to all its translations
abbrev pub answers_after : List (Lent real machine) → Ram → Call → List Given
answers_after list m x = History.answers_after real machine fresh_core fresh_bare list m x

-- A call x on the RAM m, after a list of calls from the fresh core; o is its reply with the bytes after it: made from the
-- answers to the call's translations, each faithful where its page is settled, and o itself where all pages are.
abbrev pub Faithful : List (Lent real machine) → Ram → Call → Outcome → Type 0
Faithful list m x o = History.Faithful real machine fresh_core fresh_bare replies says_in list m x o

-- whatever list of calls left this core
unfoldable pub FaithfulCall : Core → ℕ → List ℕ → Call → Stepped → List ℕ → Type 0
FaithfulCall c base bytes x r after =
    (list : List (Lent real machine)) → c ≡ core_after list
    → Faithful list (window_of base bytes) x (outcome r.reply after)

-- WHAT IS PROVED: each list is shown by its run, so fed it is the list; and what a step gives is faithful.
abbrev pub every_list_shown : Type 0
every_list_shown = EveryList (ListShown real machine fresh_core)

abbrev pub faithful_step : Type 0
faithful_step =
    (c : Core) (base : ℕ) (bytes : List ℕ) (x : Call) (r : Stepped) (after : List ℕ)
    → r ≡ step_of c base bytes x → after ≡ ram_after c base bytes x → FaithfulCall c base bytes x r after
