-- What the core without a cache replies to a call, and RAM after it: from its own state, RAM as the call begins, and the
-- call. And the claim for replies.
use Rattle.std.specs.Prelude.{◌≡◌, List, [], ◌∷◌, ◌++◌, ℕ, zero, suc, ◌+◌, Option, Some, None}
use Rattle.word.specs.Bits.{align_down, wrap}
use Rattle.word.specs.Ram.{width_of, bytes_in}
use Rattle.tlb.specs.Asks.{Ask, Given, kind_of, address_of, onward}
use Rattle.tlb.specs.declared.access.Kind.TheVariants as Kind
use Rattle.system.specs.declared.decode.SysOp.{SysOp}
use Rattle.system.specs.declared.decode.SysOp.TheVariants as Op
use Rattle.tlb.specs.Live.{Each}
use Rattle.cpu.specs.Bare.{Bare, fresh_bare, bare_of}
use Rattle.cpu.specs.Core.{fresh_core}
use Rattle.cpu.specs.Asks.{placed_from}
use Rattle.cpu.specs.Bytes.{load_end, store_end, store_ram_end, fetch_end, reached_by}
use Rattle.cpu.specs.declared.Core.{Core}
use Rattle.cpu.specs.Check.{translation, loading, storing, fetching, reaching}
use Rattle.cpu.specs.Step.{step_of, ram_after}
use Rattle.cpu.specs.declared.{call.Call.Call, call.Reply.Reply}
use Rattle.cpu.specs.declared.call.Call.TheVariants.{Translate, DataPa, FetchPa, Load, Store, Fetch, System}
use Rattle.cpu.specs.declared.call.Reply.TheVariants.{Refused, Done}
use Rattle.history.specs.Window.{Ram, window_of}
use Rattle.transparency.specs.Bare.{op_in, operand_in, ruling_in, refusal_of, if_allowed}
use Rattle.transparency.specs.Claim.{access_in, sized_in, asked, uncached, SettledFor}
use Rattle.transparency.specs.Steps.{Step, core_run, bare_run, on_done, zeroed, parts_by, steps_run}
use Rattle.word.specs.declared.ram.Width.{Width}

-- a reply, and RAM's bytes after the call
pub record Outcome : Type 0 where
  pub reply : Reply
  pub bytes : List ℕ

abbrev pub outcome : Reply → List ℕ → Outcome
outcome r bytes = record { reply = r; bytes = bytes }

-- by the call's exact definition
abbrev pub outcome_of : Core → Ram → Call → Outcome
outcome_of c m x = outcome (step_of c m.base m.bytes x).reply (ram_after c m.base m.bytes x)

-- FROM THE ANSWERS to its translations: loads and stores of n bytes. `last_pa` and `abort_pa` reach no answer, and 0
-- stands for them.
abbrev pub load_says : Ram → ℕ → ℕ → List Given → Outcome
load_says m va n gs = outcome (loading (load_end (placed_from va gs) 0 0 m.base m.bytes va n).answer) m.bytes

abbrev pub store_says : Ram → ℕ → ℕ → ℕ → List Given → Outcome
store_says m va n v gs =
    outcome (storing (store_end (placed_from va gs) 0 m.base m.bytes va n).answer)
    (store_ram_end (placed_from va gs) m.base m.bytes n v)

abbrev pub load_by_size : Option Width → Ram → ℕ → List Given → Outcome
load_by_size (Some w) m va gs = load_says m va (bytes_in w) gs
load_by_size None m va gs = outcome (Refused 3) m.bytes

abbrev pub store_by_size : Option Width → Ram → ℕ → ℕ → List Given → Outcome
store_by_size (Some w) m va v gs = store_says m va (bytes_in w) v gs
store_by_size None m va v gs = outcome (Refused 3) m.bytes

-- OF THE CORE WITHOUT A CACHE

-- its answers to the translations of an access: the second only where the first is an address
abbrev pub bare_answers : Bare → Ram → List Ask → List Given
bare_answers b m [] = []
bare_answers b m (a ∷ l) =
    let answer = uncached b m (kind_of a) (address_of a) in
    record { ask = a; answer = answer } ∷ onward answer (bare_answers b m l) []

-- a store of eight zero bytes
abbrev pub bare_zero_one : Bare → Ram → ℕ → Outcome
bare_zero_one b m va = store_says m va 8 0 (bare_answers b m (access_in b va 8 Kind.Write))

-- A zeroing: the store at va and n further ones, each on RAM as its own last one left it, up to the first that stops.
abbrev pub bare_zero : ℕ → Bare → Ram → ℕ → Outcome
bare_zero zero b m va = bare_zero_one b m va
bare_zero (suc n) b m va =
    on_done (bare_zero_one b m va).reply (bare_zero n b (window_of m.base (bare_zero_one b m va).bytes) (wrap (va + 8))) (bare_zero_one b m va)

abbrev pub bare_sys : SysOp → Bare → Ram → ℕ → Outcome
bare_sys Op.Zva b m x = bare_zero 7 b m (align_down x 6)
bare_sys _ b m x = outcome Done m.bytes

abbrev pub bare_call : Bare → Ram → Call → Outcome
bare_call b m (Translate kind va) = outcome (translation va (uncached b m kind va)) m.bytes
bare_call b m (DataPa va) = outcome (reaching (reached_by (uncached b m Kind.Read va))) m.bytes
bare_call b m (FetchPa va) = outcome (reaching (reached_by (uncached b m Kind.Fetch va))) m.bytes
bare_call b m (Load va size) = load_by_size (width_of size) m va (bare_answers b m (sized_in b va (width_of size) Kind.Read))
bare_call b m (Store va size value) =
    store_by_size (width_of size) m va value (bare_answers b m (sized_in b va (width_of size) Kind.Write))
bare_call b m (Fetch va) =
    outcome (fetching (fetch_end (uncached b m Kind.Fetch va) 0 m.base m.bytes va).answer)
    m.bytes
bare_call b m (System e) = bare_sys (op_in b e) b m (operand_in b e)
bare_call b m _ = outcome Done m.bytes

-- its reply to a call, and RAM after it
abbrev pub bare_reply : Bare → Ram → Call → Outcome
bare_reply b m x = if_allowed (ruling_in b m x) (bare_call b m x) (outcome (refusal_of (ruling_in b m x)) m.bytes)

-- THE CLAIM, FOR REPLIES: at each step of every list, where each page that the step translates is settled, the core's
-- reply and RAM after it are those of the core without a cache. A refused call translates nothing.
abbrev pub every_step_replies : Type 0
every_step_replies =
    (list before : List Step) (s : Step) (later : List Step) → steps_run fresh_core list ≡ before ++ s ∷ later →
    Each (λ a. SettledFor before s.ram (address_of a)) (asked (bare_run fresh_bare before) s) →
    outcome_of (core_run fresh_core before) s.ram s.call ≡ bare_reply (bare_run fresh_bare before) s.ram s.call

-- THE STEPS OF A CALL, a DC ZVA's stores: each begins on the RAM that the one before left, the first on the call's, and
-- the last replies, and leaves RAM, as the call does.
abbrev pub parts_of : Core → Step → List Step
parts_of c s = parts_by (zeroed (bare_of c) s.ram s.call) c s

abbrev pub Follow : Core → Ram → List Step → Type 0
Follow c m [] = Unit {0}
Follow c m (s ∷ l) =
    (s.ram ≡ m)
    × Follow (step_of c m.base m.bytes s.call).core (window_of m.base (ram_after c m.base m.bytes s.call)) l

abbrev pub outcome_run : Core → Outcome → List Step → Outcome
outcome_run c o [] = o
outcome_run c o (s ∷ l) = outcome_run (step_of c s.ram.base s.ram.bytes s.call).core (outcome_of c s.ram s.call) l

abbrev pub parts_follow : Type 0
parts_follow = (c : Core) (s : Step) → Follow c s.ram (parts_of c s)

abbrev pub parts_end : Type 0
parts_end = (c : Core) (s : Step) → outcome_run c (outcome Done s.ram.bytes) (parts_of c s) ≡ outcome_of c s.ram s.call
