-- What the plain model says of the core's own counters and of what is pending, call by call, after every list of calls
-- from the fresh core: as docs/SCOPE.md asks it ("Wrong cores").
use Rattle.std.specs.Prelude.{◌≡◌, List, ℕ, ◌+◌, ◌%◌, ◌^◌, Ok}
use Rattle.std.proofs.Math.Bool.{true, false}
use Rattle.sysreg.specs.Shape.{same_shape, asid_of}
use Rattle.sysreg.specs.declared.regs.Control.{Control}
use Rattle.tlb.specs.Model.{Model, one_flush, one_epoch, inval_counted, joined}
use Rattle.tlb.specs.Runs.{How, how_counted, how_translated, how_fetched}
use Rattle.tlb.specs.Live.{counters_of, pending_of, live}
use Rattle.tlb.specs.Asks.{Ask, translates, fetches}
use Rattle.tlb.specs.declared.{Inval.Inval, Tlb.Tlb}
use Rattle.tlb.specs.declared.access.Kind.{Kind}
use Rattle.tlb.specs.declared.Inval.TheVariants.{All, Page, Asid}
use Rattle.system.specs.declared.decode.SysOp.TheVariants as Op
use Rattle.system.specs.declared.decode.Encoding.{Encoding}
use Rattle.cpu.specs.declared.{call.Call.Call}
use Rattle.cpu.specs.declared.call.Call.TheVariants.{Translate, DataPa, FetchPa, Fetch, System, Register}
use Rattle.history.specs.World.{access_of}
use Rattle.history.specs.ModelRun.{model_flushed, model_retagged}
use Rattle.history.specs.Calls.{Lent}
use Rattle.history.specs.Instance.{Ram, real}
use Rattle.transparency.specs.Bare.{missed_in, op_in, written_in}
use Rattle.transparency.specs.Events.{plain_in, inval_in}
use Rattle.transparency.specs.Machine.{machine}
use Rattle.transparency.specs.Beside.{core_after, bare_after}
use Rattle.transparency.specs.ModelCalls.{model_after_list, tlb_after_call}

module _ (list : List (Lent real machine)) (m : Ram) where
  abbrev now : Tlb
  now = (core_after list).tlb

  abbrev model : Model
  model = model_after_list list

  -- the level of the next call
  abbrev level : ℕ
  level = (bare_after list).privilege.level

  -- TRANSLATIONS

  -- how the plain model, as the list left it, answers
  abbrev pub how_answered : Ask → How
  how_answered (translates kind va) = how_translated (access_of real (plain_in (bare_after list)) m kind va) model
  how_answered (fetches va) = how_fetched (access_of real (plain_in (bare_after list)) m Kind.Fetch va) model

  -- One that a line of the model answers counts one in `hits` of the core's level, one that is walked one in `walks` of
  -- it, whether it faults or not; a hint, and the address itself with stage 1 off, count nothing.
  abbrev pub CountsOne : Call → Ask → Type 0
  CountsOne x a =
      missed_in (bare_after list) m x ≡ 0
      → counters_of (tlb_after_call list m x) ≡ how_counted (how_answered a) level (counters_of now)

  abbrev pub translate_counted : Type 0
  translate_counted = (kind : Kind) (va : ℕ) → CountsOne (Translate kind va) (translates kind va)

  abbrev pub data_pa_counted : Type 0
  data_pa_counted = (va : ℕ) → CountsOne (DataPa va) (translates Kind.Read va)

  abbrev pub fetch_pa_counted : Type 0
  fetch_pa_counted = (va : ℕ) → CountsOne (FetchPa va) (fetches va)

  abbrev pub fetch_counted : Type 0
  fetch_counted = (va : ℕ) → CountsOne (Fetch va) (fetches va)

  -- TLBI, not refused

  module _ (e : Encoding) (passed : missed_in (bare_after list) m (System e) ≡ 0)
      (named : op_in (bare_after list) e ≡ Op.Tlbi) where
    abbrev what : Inval
    what = inval_in (bare_after list) e

    abbrev then : Tlb
    then = tlb_after_call list m (System e)

    -- it counts what it names, once, whether it is an Inner Shareable form or not
    abbrev pub tlbi_counted : Type 0
    tlbi_counted = counters_of then ≡ inval_counted what (counters_of now)

    -- the counters by level stay, and the others are these
    abbrev pub CountersAre : ℕ → ℕ → ℕ → Type 0
    CountersAre flushes drops epoch =
        (then.levels ≡ now.levels) × (then.flushes ≡ flushes) × (then.drops ≡ drops) × (then.epoch ≡ epoch)

    -- a Page adds just one to `drops` and one to `epoch`
    abbrev pub page_counted : Type 0
    page_counted = (n : ℕ) → what ≡ Page n → CountersAre now.flushes ((now.drops + 1) % 2 ^ 64) ((now.epoch + 1) % 2 ^ 64)

    -- an All one to `flushes` and one to `epoch`
    abbrev pub tlbi_all_counted : Type 0
    tlbi_all_counted = what ≡ All → CountersAre ((now.flushes + 1) % 2 ^ 64) now.drops ((now.epoch + 1) % 2 ^ 64)

    -- an Asid one to `epoch` alone
    abbrev pub asid_counted : Type 0
    asid_counted = (a : ℕ) → what ≡ Asid a → CountersAre now.flushes now.drops ((now.epoch + 1) % 2 ^ 64)

    -- A second broadcast that differs from the pending one becomes All, an equal one stays: of an Inner Shareable
    -- form, whose CRm is 3
    abbrev pub shared_pending : Type 0
    shared_pending = e.crm ≡ 3 → pending_of then.broadcast ≡ joined (pending_of now.broadcast) what

    -- every other form leaves what is pending
    abbrev pub own_pending : Type 0
    own_pending = (e.crm ≡ 3 → ⊥) → pending_of then.broadcast ≡ pending_of now.broadcast

  -- REGISTER WRITES, not refused: "where `shaping` changed, it flushes; then, where `asid` differs from the cache's, it
  -- retags"

  module _ (key value : ℕ) (passed : missed_in (bare_after list) m (Register key value) ≡ 0)
      (done : (written_in (bare_after list) key value).answer ≡ Ok tt) where
    abbrev registers : Control
    registers = (written_in (bare_after list) key value).control

    abbrev written : Tlb
    written = tlb_after_call list m (Register key value)

    -- both, as the plain model does them
    abbrev pub write_modelled : Type 0
    write_modelled =
        live written ≡ model_retagged real (asid_of registers) (model_flushed real (bare_after list).control registers model)

    -- neither changed: nothing of the cache changes
    abbrev pub write_quiet : Type 0
    write_quiet =
        same_shape (bare_after list).control registers ≡ true → asid_of registers ≡ asid_of (bare_after list).control
        → live written ≡ live now

    -- `shaping` alone: a flush, one in `flushes` and one in `epoch`
    abbrev pub write_flushes : Type 0
    write_flushes =
        same_shape (bare_after list).control registers ≡ false → asid_of registers ≡ asid_of (bare_after list).control
        → counters_of written ≡ one_epoch (one_flush (counters_of now))

    -- the ASID alone: a retag, one in `epoch`
    abbrev pub write_retags : Type 0
    write_retags =
        same_shape (bare_after list).control registers ≡ true → (asid_of registers ≡ asid_of (bare_after list).control → ⊥)
        → counters_of written ≡ one_epoch (counters_of now)

-- OF EACH SUCH CALL after every list

abbrev pub EveryTlbi :
    ((list : List (Lent real machine)) (m : Ram) (e : Encoding) → missed_in (bare_after list) m (System e) ≡ 0
    → op_in (bare_after list) e ≡ Op.Tlbi → Type 0)
    → Type 0
EveryTlbi says =
    (list : List (Lent real machine)) (m : Ram) (e : Encoding) (passed : missed_in (bare_after list) m (System e) ≡ 0)
    (named : op_in (bare_after list) e ≡ Op.Tlbi) → says list m e passed named

abbrev pub EveryWrite :
    ((list : List (Lent real machine)) (m : Ram) (key value : ℕ) → missed_in (bare_after list) m (Register key value) ≡ 0
    → (written_in (bare_after list) key value).answer ≡ Ok tt → Type 0)
    → Type 0
EveryWrite says =
    (list : List (Lent real machine)) (m : Ram) (key value : ℕ) (passed : missed_in (bare_after list) m (Register key value) ≡ 0)
    (done : (written_in (bare_after list) key value).answer ≡ Ok tt) → says list m key value passed done
