-- Of every core that calls reach: each translation, by walk, entry or hint, is judged by the manual's permission check,
-- and each fault that it meets is a row of docs/SCOPE.md's table.
use Rattle.std.specs.Prelude.{◌≡◌, List, [], ◌++◌, Err}
use Rattle.fault.specs.declared.Fault.{Fault}
use Rattle.tlb.specs.Live.{Each}
use Rattle.tlb.specs.Asks.{Given}
use Rattle.cpu.specs.Bare.{fresh_bare}
use Rattle.cpu.specs.Core.{fresh_core}
use Rattle.history.specs.History.{Step, Event, tlb_run, answers}
use Rattle.history.specs.Invisible.{answers_run}
use Rattle.history.specs.Calls.{Fed, lent_of, events_run, Shown, plain_after}
use Rattle.history.specs.Instance.{Ram, real}
use Rattle.history.specs.Judgement.{Judged, Row}
use Rattle.transparency.specs.Events.{plain_in}
use Rattle.transparency.specs.Machine.{machine}
use Rattle.transparency.specs.Beside.{core_after, bare_after}

-- JUDGED: after a list of calls from the fresh core, fed as its run shows it, each translation of each step of a call,
-- after the steps before in the call, with the RAM m at the step's start
abbrev pub every_call_judged : Type 0
every_call_judged =
    (list : List (Fed real machine)) → Shown real machine fresh_core list
    → (before : List (Event real)) (m : Ram) (s : Step real)
    → Each (λ g. Judged (events_run real machine fresh_bare list ++ before) m g.ask g.answer)
    (answers real (plain_after real machine fresh_bare list before) m s.asks
    (tlb_run real (plain_after real machine fresh_bare list []) before (core_after (lent_of real machine list)).tlb))

-- a fault that a translation meets is a row of the table
abbrev pub RowGiven : Given → Type 0
RowGiven g = (f : Fault) → g.answer ≡ Err f → Row f.fsc

-- ROWS: of all translations of a call after the list
abbrev pub every_row : Type 0
every_row =
    (list : List (Fed real machine)) → Shown real machine fresh_core list → (es : List (Event real))
    → Each RowGiven
    (answers_run real (plain_in (bare_after (lent_of real machine list))) es (core_after (lent_of real machine list)).tlb)
