-- What the plain model says of the core's own counters and of what is pending, call by call, after every list of calls
-- from the fresh core: as docs/SCOPE.md asks it ("Wrong cores").
use Rattle.std.proofs.Common.{arith, ◌∙◌}
use Rattle.std.specs.Prelude.{◌≡◌, Bool, List, [], ◌∷◌, ℕ, Ok}
use Rattle.std.proofs.Math.Path.{sym, ap}
use Rattle.std.proofs.Math.Bool.{true}
use Rattle.std.proofs.Math.Dec.{eqb}
use borrow.Author.Tests.{eq-eqb, ne_eqb}
use Rattle.sysreg.specs.Shape.{asid_of}
use Rattle.sysreg.specs.declared.regs.Control.{Control}
use Rattle.tlb.specs.Model.{Model, inval_counted, invalidate, retag, broadcast}
use Rattle.tlb.specs.Runs.{how_counted}
use Rattle.tlb.proofs.Translations.{translate-counts, fetch-counts}
use Rattle.tlb.specs.Live.{counters_of, pending_of, live}
use Rattle.tlb.proofs.Cells.{counters-tell}
use Rattle.tlb.specs.Asks.{Ask, translates, fetches}
use Rattle.tlb.specs.declared.{access.Kind.Kind, Inval.Inval, Tlb.Tlb}
use Rattle.system.specs.declared.decode.SysOp.TheVariants as Op
use Rattle.cpu.specs.Bare.{Bare}
use Rattle.system.specs.declared.decode.Encoding.{Encoding}
use Rattle.cpu.specs.declared.call.Call.{Call}
use Rattle.cpu.specs.declared.call.Call.TheVariants.{Translate, DataPa, FetchPa, Fetch, System, Register}
use Rattle.history.specs.History.{carries, writes, Event, steps}
use Rattle.history.specs.ModelRun.{model_ask, model_after, model_flushed, model_retagged, model_run}
use Rattle.history.specs.Calls.{Lent}
use Rattle.history.specs.Instance.{Ram, real}
use Rattle.transparency.specs.Bare.{missed_in, op_in, written_in}
use Rattle.transparency.specs.Events.{plain_in, does, asking, inval_in, shared_in}
use Rattle.transparency.specs.Machine.{machine}
use Rattle.transparency.specs.Beside.{core_after, bare_after}
use Rattle.transparency.proofs.Beside.{two-cores}
use Rattle.transparency.specs.Faithful.{events_after}
use Rattle.transparency.specs.ModelCalls.{model_after_list, tlb_after_call}
use Rattle.transparency.proofs.ModelCalls.{every-core-well, every-call-modelled, levels-now, levels-after}
use Rattle.transparency.specs.Counted.{how_answered}
use Rattle.transparency.specs.Counted as Statement

module _ (list : List (Lent real machine)) (m : Ram) where
  abbrev now : Tlb
  now = (core_after list).tlb

  abbrev model : Model
  model = model_after_list list

  -- the level of the next call
  abbrev level : ℕ
  level = (bare_after list).privilege.level

  -- the model after a call of one step
  one-step : (x : Call) (es : List (Event real)) → events_after list m x ≡ es
      → live (tlb_after_call list m x) ≡ model_run real (plain_in (bare_after list)) es model
  one-step x es e =
      (every-call-modelled list m x).after ∙ ap (λ (l : List (Event real)). model_run real (plain_in (bare_after list)) l model) e

  model-counts : model.counts ≡ counters_of now
  model-counts = ap (λ (u : Model). u.counts) (sym (every-call-modelled list m (Fetch 0)).before)

  model-pending : model.pending ≡ pending_of now.broadcast
  model-pending = ap (λ (u : Model). u.pending) (sym (every-call-modelled list m (Fetch 0)).before)

  -- TRANSLATIONS

  translation-counts : (a : Ask) → (model_ask real (plain_in (bare_after list)) m a model).after.counts ≡ how_counted (how_answered list m a) level model.counts
  translation-counts a = grind (arith, translate-counts, fetch-counts)

  one-counted : (x : Call) (a : Ask) → events_after list m x ≡ steps m (asking (a ∷ [])) ∷ []
      → counters_of (tlb_after_call list m x) ≡ how_counted (how_answered list m a) level (counters_of now)
  one-counted x a e = grind (arith, one-step, translation-counts, model-counts)

  -- One that a line of the model answers counts one in `hits` of the core's level, one that is walked one in `walks` of
  -- it, whether it faults or not; a hint, and the address itself with stage 1 off, count nothing.
  pub translate-counted : Statement.translate_counted list m
  translate-counted kind va passed = one-counted (Translate kind va) (translates kind va) (rw passed)

  pub data-pa-counted : Statement.data_pa_counted list m
  data-pa-counted va passed = one-counted (DataPa va) (translates Kind.Read va) (rw passed)

  pub fetch-pa-counted : Statement.fetch_pa_counted list m
  fetch-pa-counted va passed = one-counted (FetchPa va) (fetches va) (rw passed)

  pub fetch-counted : Statement.fetch_counted list m
  fetch-counted va passed = one-counted (Fetch va) (fetches va) (rw passed)

  -- TLBI, not refused

  module _ (e : Encoding) (passed : missed_in (bare_after list) m (System e) ≡ 0) (named : op_in (bare_after list) e ≡ Op.Tlbi) where
    abbrev what : Inval
    what = inval_in (bare_after list) e

    abbrev then : Tlb
    then = tlb_after_call list m (System e)

    abbrev carried : Bool → Model
    carried shared = model_after real (carries what shared) (plain_in (bare_after list)) model

    tlbi-model : live then ≡ carried (shared_in e)
    tlbi-model = grind (arith, one-step)

    carried-counts : (shared : Bool) → (carried shared).counts ≡ inval_counted what model.counts
    unfolding invalidate broadcast
    carried-counts shared = grind arith

    -- it counts what it names, once, whether it is an Inner Shareable form or not
    pub tlbi-counted : Statement.tlbi_counted list m e passed named
    tlbi-counted = ap (λ (u : Model). u.counts) tlbi-model ∙ carried-counts (shared_in e) ∙ ap (inval_counted what) model-counts

    -- a Page adds just one to `drops` and one to `epoch`
    pub page-counted : Statement.page_counted list m e passed named
    page-counted n q = counters-tell then now _ _ _ (levels-after list m (System e)) (levels-now list)
        (tlbi-counted ∙ ap (λ (v : Inval). inval_counted v (counters_of now)) q)

    -- an All one to `flushes` and one to `epoch`
    pub tlbi-all-counted : Statement.tlbi_all_counted list m e passed named
    tlbi-all-counted q = counters-tell then now _ _ _ (levels-after list m (System e)) (levels-now list)
        (tlbi-counted ∙ ap (λ (v : Inval). inval_counted v (counters_of now)) q)

    -- an Asid one to `epoch` alone
    pub asid-counted : Statement.asid_counted list m e passed named
    asid-counted a q = counters-tell then now _ _ _ (levels-after list m (System e)) (levels-now list)
        (tlbi-counted ∙ ap (λ (v : Inval). inval_counted v (counters_of now)) q)

    -- A second broadcast that differs from the pending one becomes All, an equal one stays: of an Inner Shareable
    -- form, whose CRm is 3
    pub shared-pending : Statement.shared_pending list m e passed named
    unfolding invalidate broadcast
    shared-pending q = grind (arith, tlbi-model, model-pending)

    -- every other form leaves what is pending
    pub own-pending : Statement.own_pending list m e passed named
    unfolding invalidate
    own-pending q = ap (λ (u : Model). u.pending) (tlbi-model ∙ ap carried (ne_eqb e.crm 3 q)) ∙ model-pending

  -- REGISTER WRITES, not refused: "where `shaping` changed, it flushes; then, where `asid` differs from the cache's, it
  -- retags"

  module _ (key value : ℕ) (passed : missed_in (bare_after list) m (Register key value) ≡ 0)
      (done : (written_in (bare_after list) key value).answer ≡ Ok tt) where
    abbrev registers : Control
    registers = (written_in (bare_after list) key value).control

    pub write-modelled : Statement.write_modelled list m key value passed done
    write-modelled = one-step (Register key value) (steps m (does (writes registers)) ∷ []) (rw (passed, done))

    -- the ASID in force is the cache's
    asid-now : model.asid ≡ asid_of (bare_after list).control
    asid-now =
        ap (λ (u : Model). u.asid) (sym (every-call-modelled list m (Register key value)).before)
        ∙ (every-core-well list).asid
        ∙ ap (λ (b : Bare). asid_of b.control) (two-cores list)

    -- neither changed: nothing of the cache changes
    pub write-quiet : Statement.write_quiet list m key value passed done
    unfolding model_retagged model_flushed
    write-quiet shape asid =
        let same : eqb model.asid (asid_of registers) ≡ true = eq-eqb _ _ (asid-now ∙ sym asid) in
        write-modelled ∙ rw (shape, same) (sym (every-call-modelled list m (Register key value)).before)

    -- `shaping` alone: a flush, one in `flushes` and one in `epoch`
    pub write-flushes : Statement.write_flushes list m key value passed done
    unfolding model_retagged model_flushed invalidate
    write-flushes shape asid = grind (arith, eqb, asid-now, write-modelled, model-counts)

    -- the ASID alone: a retag, one in `epoch`
    pub write-retags : Statement.write_retags list m key value passed done
    unfolding model_retagged model_flushed retag
    write-retags shape differs = grind (arith, eqb, asid-now, write-modelled, model-counts)
