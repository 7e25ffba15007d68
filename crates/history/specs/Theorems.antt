-- What is proved of every history of a core with the real registers and walk: the statements that src/theorems.rt
-- promises. RAM, at each step and now, is any.
use Rattle.std.specs.Prelude.{◌≡◌, true, false, List, ℕ, ◌+◌, ◌-◌, ◌/◌, ◌%◌, ◌^◌, ◌≤◌, ◌<◌, length, get_or, Err}
use mathlib.Core.List.{Memᴰ}
use Rattle.word.specs.Ram.{word_at}
use Rattle.fault.specs.declared.Fault.{Fault}
use Rattle.sysreg.specs.Shape.{asid_of}
use Rattle.walk.specs.Walk.{fetches_of}
use Rattle.walk.specs.Regime.{bank_of}
use Rattle.walk.specs.Table.{Translation, mapped, table_walk}
use Rattle.walk.specs.declared.{level.Leaf.Leaf}
use Rattle.sysreg.specs.declared.regs.Regime.{Regime}
use Rattle.tlb.specs.Asks.{Ask, address_of, Given}
use Rattle.tlb.specs.Runs.{sums}
use Rattle.tlb.specs.Live.{Each}
use Rattle.tlb.specs.Translate.{fresh_answer}
use Rattle.tlb.specs.Model.{Model, Access, empty_model, line_of_leaf, covers as drops_line}
use Rattle.tlb.specs.Tlb.{fresh}
use Rattle.tlb.specs.declared.{access.Kind.Kind, Inval.Inval}
use Rattle.history.specs.World.{covers, Plain, regime_now, untag_now, on_now, uncached}
use Rattle.history.specs.History.{Step, Event, plain_run, answers, tlb_run, answer_of, Settled}
use Rattle.history.specs.Instance.{Ram, window_of, memory_of, real, fresh_plain}
use Rattle.history.specs.Judgement.{Judged, Row, checked, user_now}
use Rattle.history.specs.ModelRun.{model_answers, model_run, StandsFor}
use Rattle.history.specs.Neighbours.{Own, OwnFor}
use Rattle.history.specs.Origin.{From}
use Rattle.history.specs.StepByStep.{HoldsFrom}
use Rattle.history.specs.Tallies.{Made, by_line, by_walk, how_many, at, rust_after, made_run}

abbrev pub History : Type 0
History = List (Event real)

-- after a history from the fresh core: what a translation reads besides RAM and the cache, and the plain model
abbrev pub plain_after : History → Plain real
plain_after past = plain_run real fresh_plain past

abbrev pub model_after : History → Model
model_after past = model_run real fresh_plain past empty_model

-- ANSWERS, to each translation of each step after every history

abbrev pub EachAnswer : (History → Ram → Given → Type 0) → Type 0
EachAnswer says =
    (past : History) (m : Ram) (s : Step real) →
    Each (says past m) (answers real (plain_after past) m s.asks (tlb_run real fresh_plain past fresh))

-- it comes from the address alone, from the walk of now, or from a walk that no invalidation since covers
abbrev pub every_origin : Type 0
every_origin = EachAnswer (λ past m g. From real fresh_plain past m g.ask g.answer)

-- it is judged by the manual's permission check on what such a walk found
abbrev pub every_judgement : Type 0
every_judgement = EachAnswer (λ past m g. Judged past m g.ask g.answer)

-- a fault has one of the statuses of a translation
abbrev pub every_fault_row : Type 0
every_fault_row = EachAnswer (λ past m g. (f : Fault) → g.answer ≡ Err f → Row f.fsc)

-- THE PLAIN MODEL

-- the cache is well-formed and stands for the model that the history makes of the empty one
abbrev pub every_cache_modelled : Type 0
every_cache_modelled = (past : History) → StandsFor (tlb_run real fresh_plain past fresh) (model_after past)

-- and a step's answers are the model's
abbrev pub every_answer_modelled : Type 0
every_answer_modelled =
    (past : History) (m : Ram) (s : Step real) →
    answers real (plain_after past) m s.asks (tlb_run real fresh_plain past fresh)
    ≡ model_answers real (plain_after past) m s.asks (model_after past)

-- the ASID that the cache holds is that of the registers
abbrev pub every_asid_current : Type 0
every_asid_current =
    (past : History) → (tlb_run real fresh_plain past fresh).asid ≡ asid_of (plain_after past).regs

-- THE COUNTERS that the model has after a history from any start

-- of a level: more by the translations made at it that a line answered
abbrev pub hits_by_level : Type 0
hits_by_level =
    (past : History) (c : Plain real) (u : Model) (l : ℕ) → u.counts.hits l < 2 ^ 64
    → (model_run real c past u).counts.hits l
    ≡ (u.counts.hits l + how_many (at l by_line) (made_run real c past u)) % 2 ^ 64

-- by those that were walked
abbrev pub walks_by_level : Type 0
walks_by_level =
    (past : History) (c : Plain real) (u : Model) (l : ℕ) → u.counts.walks l < 2 ^ 64
    → (model_run real c past u).counts.walks l
    ≡ (u.counts.walks l + how_many (at l by_walk) (made_run real c past u)) % 2 ^ 64

-- the sums of the four levels move as the Rust's two counters
abbrev pub sums_as_rust : Type 0
sums_as_rust =
    (past : History) (c : Plain real) (u : Model) → c.privilege.level ≤ 3
    → sums (model_run real c past u).counts ≡ rust_after (made_run real c past u) (sums u.counts)

-- a level at which no translation was made keeps its counters
abbrev pub other_levels_stay : Type 0
other_levels_stay =
    (past : History) (c : Plain real) (u : Model) (l : ℕ) → Each (λ (x : Made). l ≡ x.level → ⊥) (made_run real c past u)
    → ((model_run real c past u).counts.hits l ≡ u.counts.hits l)
    × ((model_run real c past u).counts.walks l ≡ u.counts.walks l)

-- THE PREMISE

-- with stage 1 off now each page is settled: it has no walk to count
abbrev pub settled_when_off : Type 0
settled_when_off =
    (past : History) (m : Ram) (r : Regime) (p : ℕ) → real.on (plain_after past).regs r ≡ false
    → Settled real fresh_plain past m r p

-- a page is settled where the premise holds at one step after the other
abbrev pub settled_by_steps : Type 0
settled_by_steps =
    (past : History) (m : Ram) (r : Regime) (p : ℕ)
    → HoldsFrom real (plain_after past).regs m r p fresh_plain past → Settled real fresh_plain past m r p

-- and where the history leaves it to the ASID of now
abbrev pub settled_by_asid : Type 0
settled_by_asid =
    (past : History) (m : Ram) (r : Regime) (p : ℕ) → Own real fresh_plain past m r p
    → Settled real fresh_plain past m r p

-- an invalidation covers a walk just where the plain model drops the line that the walk left: no fewer, and no more
abbrev pub covered_as_dropped : Type 0
covered_as_dropped =
    (v : Inval) (ℓ : Leaf) (a : Access) (asid : ℕ)
    → covers v (a.untagged / 4096) ℓ asid ≡ drops_line v (line_of_leaf ℓ a asid)

-- NEIGHBOURS: histories that come to the same registers, level and mark, and leave the address's page to one ASID, give
-- it one answer, on RAMs of one window that agree on the bytes of each descriptor that its walk fetches.
abbrev pub same_for_neighbours : Type 0
same_for_neighbours =
    (one two : History) (base : ℕ) (xs ys : List ℕ) (a : Ask) →
    let now = plain_after one in
    let fetched =
    fetches_of (bank_of now.regs (regime_now real now)) (regime_now real now) (untag_now real now (address_of a))
    (word_at base xs 8) in
    now ≡ plain_after two → length xs ≡ length ys
    → ((d : ℕ) → Memᴰ d fetched → base ≤ d → d + 8 ≤ base + length xs → (i : ℕ) → i < 8
    → get_or xs (d - base + i) 0 ≡ get_or ys (d - base + i) 0)
    → OwnFor real fresh_plain one (window_of base xs) a → OwnFor real fresh_plain two (window_of base ys) a
    → answer_of real now (window_of base xs) a (tlb_run real fresh_plain one fresh)
    ≡ answer_of real (plain_after two) (window_of base ys) a (tlb_run real fresh_plain two fresh)

-- THE CORE WITHOUT A CACHE

-- answers by the fresh answer that AT and the page census go by, judged as tlb::fresh judges it
abbrev pub uncached_is_fresh : Type 0
uncached_is_fresh =
    (c : Plain real) (m : Ram) (k : Kind) (va : ℕ)
    → uncached real c m k va ≡ fresh_answer (bank_of c.regs (regime_now real c)) (regime_now real c) (user_now c k) k va (memory_of m)

-- and by the manual's permission check on what the walk of now finds
abbrev pub uncached_is_checked : Type 0
uncached_is_checked =
    (c : Plain real) (m : Ram) (k : Kind) (va : ℕ) (t : Translation) → on_now real c ≡ true
    → table_walk (bank_of c.regs (regime_now real c)) (regime_now real c) (untag_now real c va) (memory_of m) ≡ mapped t
    → uncached real c m k va ≡ checked (bank_of c.regs (regime_now real c)) (regime_now real c) (user_now c k) k t va
