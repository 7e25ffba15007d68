-- The counters of each level, for every list of calls from the fresh core. `hits` and `walks` of each exception level 0 to 3 count at the level of
-- the access, which `unprivileged` does not lower. Their sums, wrapped at 2^64, are the Rust's two counters. Which translations a list made, at which
-- level, and how each was answered is read from the plain model, on the events of the list (Events.antt; RAM at a zeroing's
-- later stores as the run shows it: Starts.antt).
use Rattle.std.proofs.Common.{rules, sym, ap, subst, ◌∙◌, arith}
use Rattle.std.specs.Prelude.{◌≡◌, true, List, [], ◌∷◌, ℕ, ◌+◌, ◌%◌, ◌^◌, ◌<◌}
use Rattle.word.specs.Bits.{align_down, wrap}
use Rattle.word.specs.Ram.{width_of}
use Rattle.tlb.specs.Asks.{translates, fetches}
use Rattle.tlb.specs.Runs.{how_counted, sums}
use Rattle.tlb.proofs.Translations.{fetch-counts}
use Rattle.tlb.specs.Live.{counters_of, Each, done}
use Rattle.tlb.proofs.Cells.{each-imp}
use Rattle.tlb.specs.Model.{Counters, Model, empty_model}
use Rattle.tlb.specs.declared.access.Kind.TheVariants as Kind
use Rattle.tlb.specs.declared.Tlb.{Tlb}
use Rattle.system.specs.declared.decode.SysOp.{SysOp}
use Rattle.system.specs.declared.decode.SysOp.TheVariants as Op
use Rattle.cpu.specs.Bare.{Bare, fresh_bare}
use Rattle.system.specs.declared.decode.Encoding.{Encoding}
use Rattle.cpu.specs.declared.{call.Call.Call}
use Rattle.cpu.specs.declared.call.Call.TheVariants.{Translate, DataPa, FetchPa, Load, Store, Fetch, System}
use Rattle.history.specs.History.{Step, steps}
use Rattle.history.specs.Calls.{Lent}
use Rattle.history.specs.Instance.{Ram, real}
use Rattle.history.specs.ModelRun.{model_event}
use Rattle.history.specs.Tallies.{Made, by_line, by_walk, how_many, at, rust_after, made_run}
use Rattle.history.proofs.Tallies.{each_append, made-level, run-hits, run-walks, run-sums, run-other}
use Rattle.transparency.specs.Bare.{op_in, operand_in, Ruling, allowed, ruling_in, if_allowed}
use Rattle.transparency.specs.Events.{plain_in, asking, idle, zero_steps, sys_steps, steps_in, events_in}
use Rattle.transparency.specs.Claim.{access_in, sized_in}
use Rattle.transparency.specs.Starts.{later_in}
use Rattle.transparency.specs.Machine.{machine}
use Rattle.transparency.specs.Beside.{core_after, bare_after}
use Rattle.transparency.specs.Faithful.{events_after}
use Rattle.transparency.specs.ModelCalls.{events_by, model_after_list, tlb_after_call}
use Rattle.transparency.proofs.ModelCalls.{every-list-modelled, low-now, every-call-modelled}
use Rattle.transparency.specs.LevelCounts.{made_by, made_after, hits_of, walks_of, quiet_op, translates_nothing}
use Rattle.transparency.specs.LevelCounts as Statement

from-none : (n : ℕ) → (0 + n) % 2 ^ 64 ≡ n % 2 ^ 64
from-none n = omega arith

wraps : (n : ℕ) → n % 2 ^ 64 < 2 ^ 64
wraps n = omega arith

-- FROM THE FRESH CORE

module _ (list : List (Lent real machine)) where
  abbrev now : Tlb
  now = (core_after list).tlb

  counts-are : counters_of now ≡ (model_after_list list).counts
  counts-are = ap (λ (u : Model). u.counts) (every-list-modelled list).is

  -- each level's counts are the number of its translations that an entry answered, that were walked
  pub level-hits : Statement.level_hits list
  level-hits l = (λ i. (counts-are i).hits l) ∙ run-hits real (events_by list) (plain_in fresh_bare) empty_model l (omega arith) ∙ from-none _

  pub level-walks : Statement.level_walks list
  level-walks l = (λ i. (counts-are i).walks l) ∙ run-walks real (events_by list) (plain_in fresh_bare) empty_model l (omega arith) ∙ from-none _

  small-hits : (l : ℕ) → hits_of now l < 2 ^ 64
  small-hits l = rw (level-hits l) (wraps (how_many (at l by_line) (made_by list)))

  small-walks : (l : ℕ) → walks_of now l < 2 ^ 64
  small-walks l = rw (level-walks l) (wraps (how_many (at l by_walk) (made_by list)))

  -- the sums are the Rust's two counters, which begin at 0
  pub sums-list : Statement.sums_list list
  sums-list = ap sums counts-are ∙ run-sums real (events_by list) (plain_in fresh_bare) empty_model (omega arith)

-- EACH CALL AFTER A LIST

-- all of a call's translations are made at the level at which it begins
module _ (b : Bare) where
  abbrev AtLevel : List Made → Type 0
  AtLevel xs = Each (λ x. x.level ≡ b.privilege.level) xs

  one : (m : Ram) (s : Step real) (u : Model) → AtLevel (made_run real (plain_in b) (steps m s ∷ []) u)
  one m s u = each_append (made-level real (plain_in b) m s.asks u) done

  abbrev storing : ℕ → Step real
  storing va = asking (access_in b va 8 Kind.Write)

  zero-level : (m : Ram) (ms : List Ram) (va : ℕ) (u : Model) → AtLevel (made_run real (plain_in b) (zero_steps b m ms va) u)
  zero-level m [] va u = one m (storing va) u
  zero-level m (n ∷ ms) va u =
      search (rules, (zero-level n ms (wrap (va + 8)) (model_event real (steps m (storing va)) (plain_in b) u)), each_append, made-level)

  sys-level : (op : SysOp) (m : Ram) (ms : List Ram) (e : Encoding) (u : Model) → AtLevel (made_run real (plain_in b) (sys_steps op b m ms e) u)
  sys-level Op.Zva m ms e u = zero-level m ms (align_down (operand_in b e) 6) u
  sys-level _ m ms e u = done

  steps-level : (x : Call) (m : Ram) (ms : List Ram) (u : Model) → AtLevel (made_run real (plain_in b) (steps_in b m ms x) u)
  steps-level (Translate kind va) m ms u = one m (asking (translates kind va ∷ [])) u
  steps-level (DataPa va) m ms u = one m (asking (translates Kind.Read va ∷ [])) u
  steps-level (FetchPa va) m ms u = one m (asking (fetches va ∷ [])) u
  steps-level (Load va size) m ms u = one m (asking (sized_in b va (width_of size) Kind.Read)) u
  steps-level (Store va size value) m ms u = one m (asking (sized_in b va (width_of size) Kind.Write)) u
  steps-level (Fetch va) m ms u = one m (asking (fetches va ∷ [])) u
  steps-level (System e) m ms u = sys-level (op_in b e) m ms e u
  steps-level _ m ms u = done

  events-level : (x : Call) (m : Ram) (ms : List Ram) (u : Model) → AtLevel (made_run real (plain_in b) (events_in b m ms x) u)
  events-level x m ms u = go (ruling_in b m x)
    where
      go : (r : Ruling) → AtLevel (made_run real (plain_in b) (if_allowed r (steps_in b m ms x) (steps m idle ∷ [])) u)
      go allowed = steps-level x m ms u
      go _ = done

module _ (list : List (Lent real machine)) (m : Ram) (x : Call) where
  -- the level of the call: the core's own, whatever the mark
  abbrev level : ℕ
  level = (bare_after list).privilege.level

  abbrev then : Tlb
  then = tlb_after_call list m x

  pub call-level : Statement.call_level list m x
  call-level = events-level (bare_after list) x m (later_in (core_after list) m x) (model_after_list list)

  counts-before : counters_of (now list) ≡ (model_after_list list).counts
  counts-before = counts-are list

  -- a level at which it makes no translation keeps its counters
  unmade-stays : (l : ℕ) → Each (λ y. l ≡ y.level → ⊥) (made_after list m x)
      → (hits_of then l ≡ hits_of (now list) l) × (walks_of then l ≡ walks_of (now list) l)
  unmade-stays l none =
      let stay = run-other real (events_after list m x) (plain_in (bare_after list)) (model_after_list list) l none in
      let after = (every-call-modelled list m x).counts in
      ((λ i. (after i).hits l) ∙ stay.0 ∙ (λ i. (sym counts-before i).hits l), (λ i. (after i).walks l) ∙ stay.1 ∙ (λ i. (sym counts-before i).walks l))

  -- so no other level's counters move
  pub others-stay : Statement.others_stay list m x
  others-stay l ne = unmade-stays l (each-imp (λ y e q. ne (q ∙ e)) call-level)

  -- the call's own level: by the number of its translations that an entry answered, that were walked
  pub own-hits : Statement.own_hits list m x
  own-hits =
      (λ i. ((every-call-modelled list m x).counts i).hits level)
      ∙ run-hits real (events_after list m x) (plain_in (bare_after list)) (model_after_list list) level (rw (← counts-before) (small-hits list level))
      ∙ ap (λ (n : ℕ). (n + how_many (at level by_line) (made_after list m x)) % 2 ^ 64) (λ i. (sym counts-before i).hits level)

  pub own-walks : Statement.own_walks list m x
  own-walks =
      (λ i. ((every-call-modelled list m x).counts i).walks level)
      ∙ run-walks real (events_after list m x) (plain_in (bare_after list)) (model_after_list list) level (rw (← counts-before) (small-walks list level))
      ∙ ap (λ (n : ℕ). (n + how_many (at level by_walk) (made_after list m x)) % 2 ^ 64) (λ i. (sym counts-before i).walks level)

  -- the sums move as the Rust's two counters
  pub sums-call : Statement.sums_call list m x
  sums-call =
      ap sums (every-call-modelled list m x).counts
      ∙ run-sums real (events_after list m x) (plain_in (bare_after list)) (model_after_list list) (low-now list m x)
      ∙ ap (λ (k : Counters). rust_after (made_after list m x) (sums k)) (sym counts-before)

module _ (b : Bare) (m : Ram) (ms : List Ram) (u : Model) where
  pub events-none : (x : Call) → translates_nothing b x ≡ true → made_run real (plain_in b) (events_in b m ms x) u ≡ []
  events-none x q = grind arith

-- a refused call makes none either
pub refused_none : (b : Bare) (m : Ram) (ms : List Ram) (u : Model) (x : Call) → (ruling_in b m x ≡ allowed → ⊥)
    → made_run real (plain_in b) (events_in b m ms x) u ≡ []
refused_none b m ms u x not = grind arith

pub refused-stays : Statement.refused_stays
refused-stays list m x not l =
    let none : made_after list m x ≡ [] = refused_none (bare_after list) m (later_in (core_after list) m x) (model_after_list list) x not in
    unmade-stays list m x l (subst (Each (λ (y : Made). l ≡ y.level → ⊥)) (sym none) done)

-- after every list such a call leaves the counters of every level
pub quiet-stays : Statement.quiet_stays
quiet-stays list m x q l =
    let none : made_after list m x ≡ [] = events-none (bare_after list) m (later_in (core_after list) m x) (model_after_list list) x q in
    unmade-stays list m x l (subst (Each (λ (y : Made). l ≡ y.level → ⊥)) (sym none) done)

-- THE MARK, of the translation that a fetch begins with (of others: `mark-free`, tlb/specs/Runs.antt): the counters
-- are a function of how it was answered and of the level
pub fetch-mark-free : Statement.fetch_mark_free
fetch-mark-free a b m same how = fetch-counts a m ∙ (λ i. how_counted (how i) (same i) m.counts) ∙ sym (fetch-counts b m)
