-- The counters of each level, for every list of calls from the fresh core. `hits` and `walks` of each exception level 0 to 3 count at the level of
-- the access, which `unprivileged` does not lower. Their sums, wrapped at 2^64, are the Rust's two counters. Which translations a list made, at which
-- level, and how each was answered is read from the plain model, on the events of the list (Events.antt; RAM at a zeroing's
-- later stores as the run shows it: Starts.antt).
use Rattle.std.specs.Prelude.{◌≡◌, Bool, true, false, List, ℕ, ◌+◌, ◌%◌, ◌^◌}
use Rattle.tlb.specs.Tlb.{tally_at}
use Rattle.tlb.specs.Runs.{how_fetched, Totals, sums}
use Rattle.tlb.specs.Live.{counters_of, Each}
use Rattle.tlb.specs.Model.{Model, Access, empty_model, fetch}
use Rattle.tlb.specs.declared.Tlb.{Tlb}
use Rattle.system.specs.declared.decode.SysOp.{SysOp}
use Rattle.system.specs.declared.decode.SysOp.TheVariants as Op
use Rattle.cpu.specs.Bare.{Bare, fresh_bare}
use Rattle.cpu.specs.declared.{call.Call.Call}
use Rattle.cpu.specs.declared.call.Call.TheVariants.{Translate, DataPa, FetchPa, Load, Store, Fetch, System}
use Rattle.history.specs.Calls.{Lent}
use Rattle.history.specs.Instance.{Ram, real}
use Rattle.history.specs.Tallies.{Made, by_line, by_walk, how_many, at, rust_after, made_run}
use Rattle.transparency.specs.Bare.{op_in, allowed, ruling_in}
use Rattle.transparency.specs.Events.{plain_in}
use Rattle.transparency.specs.Machine.{machine}
use Rattle.transparency.specs.Beside.{core_after, bare_after, EveryCall}
use Rattle.transparency.specs.Faithful.{events_after}
use Rattle.transparency.specs.ModelCalls.{events_by, model_after_list, tlb_after_call}

-- the translations that a list made, and those of a call x, on the RAM m, that follows it
abbrev pub made_by : List (Lent real machine) → List Made
made_by list = made_run real (plain_in fresh_bare) (events_by list) empty_model

abbrev pub made_after : List (Lent real machine) → Ram → Call → List Made
made_after list m x = made_run real (plain_in (bare_after list)) (events_after list m x) (model_after_list list)

-- the two counters of a level
abbrev pub hits_of : Tlb → ℕ → ℕ
hits_of t l = (tally_at t l).hits

abbrev pub walks_of : Tlb → ℕ → ℕ
walks_of t l = (tally_at t l).walks

-- their sums over the four levels, wrapped
abbrev pub totals_of : Tlb → Totals
totals_of t = sums (counters_of t)

-- FROM THE FRESH CORE

module _ (list : List (Lent real machine)) where
  abbrev now : Tlb
  now = (core_after list).tlb

  -- each level's counts are the number of its translations that an entry answered, that were walked
  abbrev pub level_hits : Type 0
  level_hits = (l : ℕ) → hits_of now l ≡ how_many (at l by_line) (made_by list) % 2 ^ 64

  abbrev pub level_walks : Type 0
  level_walks = (l : ℕ) → walks_of now l ≡ how_many (at l by_walk) (made_by list) % 2 ^ 64

  -- the sums are the Rust's two counters, which begin at 0
  abbrev pub sums_list : Type 0
  sums_list = totals_of now ≡ rust_after (made_by list) (record { hits = 0; walks = 0 })

-- EACH CALL AFTER A LIST

module _ (list : List (Lent real machine)) (m : Ram) (x : Call) where
  -- the level of the call, at which all its translations are made: the core's own, whatever the mark
  abbrev level : ℕ
  level = (bare_after list).privilege.level

  abbrev then : Tlb
  then = tlb_after_call list m x

  abbrev pub call_level : Type 0
  call_level = Each (λ y. y.level ≡ level) (made_after list m x)

  -- so no other level's counters move
  abbrev pub others_stay : Type 0
  others_stay =
      (l : ℕ) → (l ≡ level → ⊥) → (hits_of then l ≡ hits_of (now list) l) × (walks_of then l ≡ walks_of (now list) l)

  -- the call's own level: by the number of its translations that an entry answered, that were walked
  abbrev pub own_hits : Type 0
  own_hits = hits_of then level ≡ (hits_of (now list) level + how_many (at level by_line) (made_after list m x)) % 2 ^ 64

  abbrev pub own_walks : Type 0
  own_walks = walks_of then level ≡ (walks_of (now list) level + how_many (at level by_walk) (made_after list m x)) % 2 ^ 64

  -- the sums move as the Rust's two counters
  abbrev pub sums_call : Type 0
  sums_call = totals_of then ≡ rust_after (made_after list m x) (totals_of (now list))

-- CALLS THAT TRANSLATE NOTHING: AT, TLBI and the rest of `sys` but DC ZVA, register writes, settings, abort entries, a
-- census, windows, a flip
abbrev pub quiet_op : SysOp → Bool
quiet_op Op.Zva = false
quiet_op _ = true

abbrev pub translates_nothing : Bare → Call → Bool
translates_nothing b (Translate kind va) = false
translates_nothing b (DataPa va) = false
translates_nothing b (FetchPa va) = false
translates_nothing b (Load va size) = false
translates_nothing b (Store va size value) = false
translates_nothing b (Fetch va) = false
translates_nothing b (System e) = quiet_op (op_in b e)
translates_nothing b _ = true

-- a call leaves the counters of every level
abbrev pub Leaves : List (Lent real machine) → Ram → Call → Type 0
Leaves list m x =
    (l : ℕ) → (hits_of (tlb_after_call list m x) l ≡ hits_of (core_after list).tlb l)
    × (walks_of (tlb_after_call list m x) l ≡ walks_of (core_after list).tlb l)

-- after every list such a call does, and so does a refused one
abbrev pub quiet_stays : Type 0
quiet_stays = EveryCall (λ list m x. translates_nothing (bare_after list) x ≡ true → Leaves list m x)

abbrev pub refused_stays : Type 0
refused_stays = EveryCall (λ list m x. (ruling_in (bare_after list) m x ≡ allowed → ⊥) → Leaves list m x)

-- THE MARK, of the translation that a fetch begins with (of others: `mark-free`, tlb/specs/Runs.antt): the counters
-- are a function of how it was answered and of the level
abbrev pub fetch_mark_free : Type 0
fetch_mark_free =
    (a b : Access) (m : Model) → a.privilege.level ≡ b.privilege.level → how_fetched a m ≡ how_fetched b m
    → (fetch a m).after.counts ≡ (fetch b m).after.counts
