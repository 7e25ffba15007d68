-- The counters that a translation leaves in the plain model are a function of how it was answered and of its level; and their sums are the
-- Rust's two counters.
use Rattle.std.specs.Prelude.{ℕ, ◌+◌, ◌/◌, ◌%◌, ◌^◌, Bool, true, false, ◌≤◌, List, [], ◌∷◌}
use Rattle.tlb.specs.Model.{Slot, empty, holds, Line, Counters, Model, up, one_hit, one_walk, line_for, hint_place, knowing, Access, hintable}
use Rattle.tlb.specs.Model.{invalidate, retag, broadcast, translate, fetch}
use Rattle.tlb.specs.Translate.{read_more, translation_in, tlb_after, fetch_in, fetched_in}
use Rattle.tlb.specs.declared.work.Work.{Work}
use Rattle.tlb.specs.Tlb.{invalidate_of, retag_of, broadcast_of}
use Rattle.tlb.specs.Live.{counters_of, pending_of, LeafLevel}
use Rattle.tlb.specs.declared.{Tlb.Tlb, Inval.Inval}
use Rattle.tlb.specs.Answers.{Answer}

-- by a hint, by the address alone where stage 1 is off, by a line, or by a walk, whether it faults or not
pub data How : Type 0 where
  hint_answered : How
  itself : How
  line_answered : How
  walk_answered : How

-- at the level of the access a line is a hit, every walk counts one, a hint and the address alone nothing
abbrev pub how_counted : How → ℕ → Counters → Counters
how_counted line_answered level k = one_hit level k
how_counted walk_answered level k = one_walk level k
how_counted how level k = k

-- the descriptors of its walk, n of them, are read by a walk alone
abbrev pub how_work : How → ℕ → Work → Work
how_work walk_answered n w = read_more n w
how_work how n w = w

abbrev pub how_looked : Bool → Slot Line → How
how_looked false l = itself
how_looked true (holds l) = line_answered
how_looked true empty = walk_answered

abbrev pub how_unhinted : Access → Model → How
how_unhinted a m = how_looked a.on (line_for m a.regime (a.untagged / 4096))

abbrev pub how_tried : Slot ℕ → How → How
how_tried (holds frame) other = hint_answered
how_tried empty other = other

abbrev pub how_hinted : Bool → Access → Model → How
how_hinted true a m = how_tried (knowing (a.va / 4096) a.privilege.level (m.hints (hint_place a.kind a.va))) (how_unhinted a m)
how_hinted false a m = how_unhinted a m

abbrev pub how_translated : Access → Model → How
how_translated a m = how_hinted (hintable a.kind a.privilege.unprivileged) a m

abbrev pub how_fetched : Access → Model → How
how_fetched a m = how_tried (knowing (a.va / 4096) a.privilege.level m.fetch) (how_unhinted a m)

-- THE SUMS OF THE FOUR LEVELS, wrapped, move as the Rust's two counters do

-- the Rust's: one for every answer from an entry, one for every walk
pub record Totals : Type 0 where
  pub hits : ℕ
  pub walks : ℕ

abbrev pub rust_counted : How → Totals → Totals
rust_counted line_answered t = record t { hits = up t.hits }
rust_counted walk_answered t = record t { walks = up t.walks }
rust_counted how t = t

abbrev pub sum : (ℕ → ℕ) → ℕ
sum f = (f 0 + f 1 + f 2 + f 3) % 2 ^ 64

abbrev pub sums : Counters → Totals
sums k = record { hits = sum k.hits; walks = sum k.walks }

-- Every list of operations on a new cache: what is seen of it, answer by answer, is what is seen of the plain model. Neither `live` nor the
-- well-formed caches stand in the statement.

-- what can be asked of a cache; a flush is an All
pub data Op : Type 0 where
  invalidates : Inval → Op
  retags : ℕ → Op
  broadcasts : Inval → Op
  translates : Access → Op
  fetches : Access → Op

-- the level is 0 to 3, and a walk's leaf is of level 3 at most
abbrev pub Fair : Op → Type 0
Fair (translates a) = (a.privilege.level ≤ 3) × LeafLevel a.walk
Fair (fetches a) = (a.privilege.level ≤ 3) × LeafLevel a.walk
Fair o = Unit {0}

-- what is seen of an operation: its answer, if it has one, the counters, and what is pending
pub record Seen : Type 0 where
  pub answer : Slot Answer
  pub counts : Counters
  pub pending : Slot Inval

-- on the cache
abbrev pub after_op : Op → Tlb → Tlb
after_op (invalidates what) t = invalidate_of t what
after_op (retags asid) t = retag_of t asid
after_op (broadcasts what) t = broadcast_of t what
after_op (translates a) t = tlb_after a t
after_op (fetches a) t = fetched_in a t

abbrev pub answer_of : Op → Tlb → Slot Answer
answer_of (translates a) t = holds (translation_in a t).answer
answer_of (fetches a) t = holds (fetch_in a t).answer
answer_of o t = empty

abbrev pub seen_of : Op → Tlb → Seen
seen_of o t = record { answer = answer_of o t; counts = counters_of (after_op o t); pending = pending_of (after_op o t).broadcast }

unfoldable pub run : List Op → Tlb → List Seen
run [] t = []
run (o ∷ os) t = seen_of o t ∷ run os (after_op o t)

-- on the model
abbrev pub model_after : Op → Model → Model
model_after (invalidates what) m = invalidate what m
model_after (retags asid) m = retag asid m
model_after (broadcasts what) m = broadcast what m
model_after (translates a) m = (translate a m).after
model_after (fetches a) m = (fetch a m).after

abbrev pub model_answer : Op → Model → Slot Answer
model_answer (translates a) m = holds (translate a m).answer
model_answer (fetches a) m = holds (fetch a m).answer
model_answer o m = empty

abbrev pub seen_in : Op → Model → Seen
seen_in o m = record { answer = model_answer o m; counts = (model_after o m).counts; pending = (model_after o m).pending }

unfoldable pub model_run : List Op → Model → List Seen
model_run [] m = []
model_run (o ∷ os) m = seen_in o m ∷ model_run os (model_after o m)
