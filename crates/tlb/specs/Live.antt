-- Lists that stand for arrays: what holds of each element, and a loop that maps every element.
use Rattle.std.specs.Prelude.{ℕ, List, [], ◌∷◌, if◌then◌else◌, ◌≡◌, zero, suc, ◌/◌, ◌%◌, ◌^◌, ◌<◌, ◌≤◌, length, ◌==◌, nat_le, Option, Some, None}
use Rattle.std.specs.Prelude.{slice_index_or, Ok}
use Rattle.walk.specs.declared.{level.Leaf.Leaf}
use Rattle.sysreg.specs.declared.regs.Regime.{Regime}
use Rattle.sysreg.specs.declared.regs.Regime.TheVariants.{El1, El2, El3}
use Rattle.walk.specs.Answers.{Walked}
use Rattle.tlb.specs.Tlb.{blank, no_hint, tally_at}
use Rattle.tlb.specs.Model.{Slot, empty, holds, Line, Known, Counters, Model, reach_of}
use Rattle.tlb.specs.declared.{entry.Entry.Entry, hint.Hint.Hint, hint.FetchHint.FetchHint, Tlb.Tlb, Inval.Inval}
use Rattle.tlb.specs.Answers.{Outcome}

pub data Each {A : Type 0} (P : A → Type 0) : List A → Type 0 where
  done : Each P []
  more : {a : A} {l : List A} → P a → Each P l → Each P (a ∷ l)

-- The plain model that a cache stands for, and the caches that the operations make and keep.

-- what an entry says of its page, in the regime r
abbrev pub line_in : Regime → Entry → Line
line_in r e =
    record { page = e.tag / 4; regime = r; frame = e.pa / 4096; perms = e.perms; level = e.level; reach = reach_of e.global e.asid }

-- the low two bits of a tag are the regime; no access has a tag with 0 there
abbrev pub tagged : ℕ → Entry → Slot Line
tagged zero e = empty
tagged (suc zero) e = holds (line_in El1 e)
tagged (suc (suc zero)) e = holds (line_in El2 e)
tagged (suc (suc (suc n))) e = holds (line_in El3 e)

-- an entry of another generation is no line
unfoldable pub line_of : ℕ → Entry → Slot Line
line_of g e = if e.generation == g then tagged (e.tag % 4) e else empty

-- the low twelve bits of a key are the level; no access has a level above 3
unfoldable pub hint_of : Hint → Slot Known
hint_of h = if nat_le (h.key % 4096) 3 then holds (record { page = h.key / 4096; level = h.key % 4096; frame = h.pa / 4096 }) else empty

unfoldable pub fetch_hint_of : Option FetchHint → Slot Known
fetch_hint_of None = empty
fetch_hint_of (Some f) = holds (record { page = f.page / 4096; level = f.level; frame = f.pa / 4096 })

abbrev pub pending_of : Option Inval → Slot Inval
pending_of None = empty
pending_of (Some what) = holds what

unfoldable pub lines_of : ℕ → List Entry → ℕ → Slot Line
lines_of g es i = line_of g (slice_index_or es i blank)

unfoldable pub hints_of : List Hint → ℕ → Slot Known
hints_of hs i = hint_of (slice_index_or hs i no_hint)

abbrev pub counters_of : Tlb → Counters
counters_of t =
    record {
      hits = λ l. (tally_at t l).hits;
      walks = λ l. (tally_at t l).walks;
      flushes = t.flushes;
      drops = t.drops;
      epoch = t.epoch;
    }

abbrev pub live : Tlb → Model
live t =
    record {
      asid = t.asid;
      lines = lines_of t.generation t.entries;
      hints = hints_of t.hints;
      fetch = fetch_hint_of t.fetch;
      counts = counters_of t;
      pending = pending_of t.broadcast;
    }

-- an entry that a walk made, of the generation g or an earlier one; a blank one is such, too
pub record Made (g : ℕ) (e : Entry) : Type 0 where
  pub early : e.generation ≤ g
  pub aligned : e.pa % 4096 ≡ 0
  pub level : e.level ≤ 3

abbrev pub Aligned : Hint → Type 0
Aligned h = h.pa % 4096 ≡ 0

abbrev pub FetchAligned : Option FetchHint → Type 0
FetchAligned None = Unit {0}
FetchAligned (Some f) = (f.page % 4096 ≡ 0) × (f.pa % 4096 ≡ 0)

pub record WellFormed (t : Tlb) : Type 0 where
  pub first : 1 ≤ t.generation
  pub last : t.generation < 2 ^ 32
  pub slots : length t.entries ≡ 1024
  pub places : length t.hints ≡ 512
  pub levels : length t.levels ≡ 4
  pub entries : Each (Made t.generation) t.entries
  pub hints : Each Aligned t.hints
  pub fetch : FetchAligned t.fetch

-- a leaf that the walk ends in is of level 3 at most
abbrev pub LeafLevel : Walked → Type 0
LeafLevel w = (leaf : Leaf) → w ≡ Ok leaf → leaf.level ≤ 3

-- an answer and the cache that is left are those of the plain model
pub record Follows (code : Outcome Tlb) (model : Outcome Model) : Type 0 where
  pub answer : code.answer ≡ model.answer
  pub after : live code.after ≡ model.after
  pub well : WellFormed code.after
