-- Of every core that calls reach: each translation, by walk, entry or hint, is judged by the manual's permission check,
-- and each fault that it meets is a row of docs/SCOPE.md's table.
use Rattle.std.specs.Prelude.{◌≡◌, List, [], ◌∷◌, ◌++◌}
use Rattle.std.proofs.Math.Path.{refl}
use Rattle.std.proofs.Common.{subst, arith}
use Rattle.tlb.specs.Live.{Each, done, more}
use Rattle.tlb.specs.Asks.{Given}
use Rattle.tlb.specs.declared.Tlb.{Tlb}
use Rattle.cpu.specs.Core.{fresh_core}
use Rattle.history.specs.World.{Plain}
use Rattle.history.proofs.Lists.{each_append, plain-append, tlb-append}
use Rattle.history.specs.History.{Event, steps, receives, after_event, plain_run, tlb_event, tlb_run}
use Rattle.history.specs.Invisible.{answers_run}
use Rattle.history.specs.Calls.{Fed, lent_of, Shown}
use Rattle.history.proofs.EveryCall.{lifted}
use Rattle.history.specs.Instance.{Ram, real}
use Rattle.history.proofs.Instance.{real-laws, fresh-asid}
use Rattle.history.specs.Judgement.{Judged}
use Rattle.history.proofs.Judgement.{status-row}
use Rattle.history.proofs.EveryJudgement.{every-judgement}
use Rattle.transparency.specs.Events.{plain_in}
use Rattle.transparency.specs.Machine.{machine}
use Rattle.transparency.proofs.Bridge.{bridge}
use Rattle.transparency.specs.Beside.{core_after, bare_after}
use Rattle.transparency.specs.Judged.{RowGiven}
use Rattle.transparency.specs.Judged as Statement

pub every-call-judged : Statement.every_call_judged
unfolding fresh_core
every-call-judged list seen before m s =
    lifted real machine bridge real-laws fresh_core refl fresh-asid (omega arith) (λ past k g. Judged past k g.ask g.answer)
    every-judgement list seen before m s

-- After a list of calls from the fresh core, fed as its run shows it.
module _ (list : List (Fed real machine)) (seen : Shown real machine fresh_core list) where
  abbrev p : Plain real
  p = plain_in (bare_after (lent_of real machine list))

  abbrev t : Tlb
  t = (core_after (lent_of real machine list)).tlb

  -- one event more before the rest
  one_more : (before : List (Event real)) (x : Event real) (es : List (Event real))
      → answers_run real (plain_run real p (before ++ x ∷ [])) es (tlb_run real p (before ++ x ∷ []) t)
      ≡ answers_run real (after_event real x (plain_run real p before)) es (tlb_event real x (plain_run real p before) (tlb_run real p before t))
  one_more before x es = grind (arith, plain-append, tlb-append)

  each_row : (past : List (Event real)) (m : Ram) (l : List Given) → Each (λ g. Judged past m g.ask g.answer) l → Each RowGiven l
  each_row past m [] done = done
  each_row past m (g ∷ l) (more j js) =
      more (λ f e. status-row past m g.ask f (subst (Judged past m g.ask) e j)) (each_row past m l js)

  rows-from : (before es : List (Event real)) → Each RowGiven (answers_run real (plain_run real p before) es (tlb_run real p before t))
  rows-from before [] = done
  rows-from before (steps m s ∷ es) =
      each_append (each_row _ m _ (every-call-judged list seen before m s))
      (subst (λ (l : List Given). Each RowGiven l) (one_more before (steps m s) es) (rows-from (before ++ steps m s ∷ []) es))
  rows-from before (receives v ∷ es) =
      subst (λ (l : List Given). Each RowGiven l) (one_more before (receives v) es) (rows-from (before ++ receives v ∷ []) es)

pub every-row : Statement.every_row
every-row list seen es = rows-from list seen [] es
