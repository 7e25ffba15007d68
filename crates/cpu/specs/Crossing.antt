-- Of an access over two pages the lowest failing byte decides: a byte fails where its page's translation does, and where it lies outside RAM. One rule,
-- with no case for a fault of the second page behind a byte of the first that lies outside. And what changed by it: the ends as they were before, which
-- let a fault of the second page come first.
use Rattle.std.specs.Prelude.{if◌then◌else◌, ◌≡◌, ℕ, ◌+◌, ◌-◌, ◌%◌, ◌^◌, ◌<◌, ◌≢◌, true, false, List, length, nat_lt, Option, Some, None, Ok, Err}
use Rattle.std.specs.Prelude.{unwrap_or}
use Rattle.word.specs.Bits.{wrap}
use Rattle.word.specs.Ram.{within, word_at}
use Rattle.fault.specs.declared.Fault.{Fault}
use Rattle.tlb.specs.Answers.{Answer}
use Rattle.cpu.specs.Bytes.{Placed, in_page, placed_one, placed_both, LoadEnd, End, StoreAnswer, external, data_abort, load_end, store_end}
use Rattle.cpu.specs.Bytes.{store_ram_end}
use Rattle.tlb.specs.declared.access.Kind.{Kind}
use Rattle.tlb.specs.declared.access.Kind.TheVariants.{Read, Write}
use Rattle.exception.specs.declared.kind.Stop.{Stop}
use Rattle.cpu.specs.PlaceRows.{stop_address}
use Rattle.cpu.specs.Memory.{read_of, write_of}
use Rattle.cpu.specs.Asks.{on_now}
use Rattle.cpu.specs.OwnAddress.{own_answer, Ready}
use Rattle.cpu.specs.declared.Core.{Core}

-- what byte k of a page meets, by the page's translation: its fault, or an external abort
abbrev pub fails_at : ℕ → ℕ → Answer → ℕ → Option Fault
fails_at base len (Ok pa) k = if within base len 1 (wrap (pa + k)) then None else Some external
fails_at base len (Err f) k = Some f

-- where byte k of a page lies
abbrev pub lies_at : Answer → ℕ → Option ℕ
lies_at (Ok pa) k = Some (wrap (pa + k))
lies_at (Err f) k = None

-- byte i of an access whose pages were translated to a and to b: what it meets, and where it lies
abbrev pub byte_fails : ℕ → ℕ → ℕ → Answer → Answer → ℕ → Option Fault
byte_fails base len va a b i = if nat_lt i (in_page va) then fails_at base len a i else fails_at base len b (i - in_page va)

abbrev pub byte_lies : ℕ → Answer → Answer → ℕ → Option ℕ
byte_lies va a b i = if nat_lt i (in_page va) then lies_at a i else lies_at b (i - in_page va)

-- byte i is the lowest of n that fails, by f
pub record LowestFails (base len va : ℕ) (a b : Answer) (n i : ℕ) (f : Fault) : Type 0 where
  pub below : i < n
  pub here : byte_fails base len va a b i ≡ Some f
  pub before : (j : ℕ) → j < i → byte_fails base len va a b j ≡ None

abbrev pub NoneFails : ℕ → ℕ → ℕ → Answer → Answer → ℕ → Type 0
NoneFails base len va a b n = (i : ℕ) → i < n → byte_fails base len va a b i ≡ None

-- THE RULE

-- a load or store ends in a data abort at the lowest failing byte, with what that byte meets
abbrev pub LoadFails : Type 0
LoadFails =
    (base : ℕ) (ram : List ℕ) (va n : ℕ) (a b : Answer) (last abort i : ℕ) (f : Fault) → va < 2 ^ 64 → in_page va < n
    → LowestFails base (length ram) va a b n i f
    → (load_end (placed_both va a b) last abort base ram va n).answer ≡ Err (data_abort (wrap (va + i)) false f)

abbrev pub StoreFails : Type 0
StoreFails =
    (base : ℕ) (ram : List ℕ) (va n : ℕ) (a b : Answer) (abort i : ℕ) (f : Fault) → va < 2 ^ 64 → in_page va < n
    → LowestFails base (length ram) va a b n i f
    → (store_end (placed_both va a b) abort base ram va n).answer ≡ Err (data_abort (wrap (va + i)) true f)

-- where none fails it does not abort, and `abort_pa` stays
abbrev pub NoneAborts : Type 0
NoneAborts =
    (base : ℕ) (ram : List ℕ) (va n : ℕ) (a b : Answer) (last abort : ℕ) → in_page va < n → NoneFails base (length ram) va a b n
    → ((v : ℕ) × ((load_end (placed_both va a b) last abort base ram va n).answer ≡ Ok v))
    × ((store_end (placed_both va a b) abort base ram va n).answer ≡ Ok tt)
    × ((load_end (placed_both va a b) last abort base ram va n).abort_pa ≡ abort)
    × ((store_end (placed_both va a b) abort base ram va n).abort_pa ≡ abort)

-- `abort_pa` is where the failing byte lies; it stays where that byte's page faults
abbrev pub AbortsAt : Type 0
AbortsAt =
    (base : ℕ) (ram : List ℕ) (va n : ℕ) (a b : Answer) (last abort i : ℕ) (f : Fault) → va < 2 ^ 64 → in_page va < n
    → LowestFails base (length ram) va a b n i f
    → ((load_end (placed_both va a b) last abort base ram va n).abort_pa ≡ unwrap_or (byte_lies va a b i) abort)
    × ((store_end (placed_both va a b) abort base ram va n).abort_pa ≡ unwrap_or (byte_lies va a b i) abort)

-- a load's `last_pa` is its first byte's where both pages translate; else it stays
abbrev pub last_by : Answer → Answer → ℕ → ℕ
last_by (Ok pa) (Ok pa2) last = pa
last_by (Ok pa) (Err f) last = last
last_by (Err f) b last = last

abbrev pub LastStays : Type 0
LastStays =
    (base : ℕ) (ram : List ℕ) (va n : ℕ) (a b : Answer) (last abort : ℕ)
    → (load_end (placed_both va a b) last abort base ram va n).last_pa ≡ last_by a b last

-- where a page faults, no byte moves: not those of the first page either
abbrev pub HalfMovesNothing : Type 0
HalfMovesNothing =
    (base : ℕ) (ram : List ℕ) (va n v : ℕ) (a : Answer) (f : Fault)
    → (store_ram_end (placed_both va a (Err f)) base ram n v ≡ ram) × (store_ram_end (placed_both va (Err f) a) base ram n v ≡ ram)

-- WHAT CHANGED

-- the ends as they were: a translation's fault is the answer
abbrev pub load_end_before : Placed → ℕ → ℕ → ℕ → List ℕ → ℕ → ℕ → LoadEnd
load_end_before (Err failed) last abort base ram va n =
    record { last_pa = last; abort_pa = abort; answer = Err (data_abort failed.addr false failed.fault) }
load_end_before (Ok place) last abort base ram va n = load_end (Ok place) last abort base ram va n

abbrev pub store_end_before : Placed → ℕ → ℕ → List ℕ → ℕ → ℕ → End StoreAnswer
store_end_before (Err failed) abort base ram va n = record { abort_pa = abort; answer = Err (data_abort failed.addr true failed.fault) }
store_end_before (Ok place) abort base ram va n = store_end (Ok place) abort base ram va n

-- an access of one page ends as before
abbrev pub OnePageStays : Type 0
OnePageStays =
    (base : ℕ) (ram : List ℕ) (va n : ℕ) (a : Answer) (last abort : ℕ)
    → (load_end (placed_one va a) last abort base ram va n ≡ load_end_before (placed_one va a) last abort base ram va n)
    × (store_end (placed_one va a) abort base ram va n ≡ store_end_before (placed_one va a) abort base ram va n)

-- so does one of two pages, unless the second faults and a byte of the first lies outside
abbrev pub CrossingsStay : Type 0
CrossingsStay =
    (base : ℕ) (ram : List ℕ) (va n : ℕ) (a b : Answer) (last abort : ℕ)
    → ((pa i : ℕ) (f : Fault) → a ≡ Ok pa → b ≡ Err f → i < in_page va → within base (length ram) 1 (wrap (pa + i)) ≡ true)
    → (load_end (placed_both va a b) last abort base ram va n ≡ load_end_before (placed_both va a b) last abort base ram va n)
    × (store_end (placed_both va a b) abort base ram va n ≡ store_end_before (placed_both va a b) abort base ram va n)

-- and there another address is reported
abbrev pub TheseChange : Type 0
TheseChange =
    (base : ℕ) (ram : List ℕ) (va n pa i : ℕ) (f : Fault) (last abort : ℕ) (x y : Stop) → va < 2 ^ 64 → i < in_page va
    → within base (length ram) 1 (wrap (pa + i)) ≡ false
    → ((load_end (placed_both va (Ok pa) (Err f)) last abort base ram va n).answer ≡ Err x
    → (load_end_before (placed_both va (Ok pa) (Err f)) last abort base ram va n).answer ≡ Err y → stop_address x ≢ stop_address y)
    × ((store_end (placed_both va (Ok pa) (Err f)) abort base ram va n).answer ≡ Err x
    → (store_end_before (placed_both va (Ok pa) (Err f)) abort base ram va n).answer ≡ Err y → stop_address x ≢ stop_address y)

-- OF A CORE, by each byte's own address: byte i of an access to va stands at the virtual address wrap (va + i). With this `in_page`, `crosses`, `placed_both`
-- and `first_part` need not be believed; `own_answer`, the translation of a byte's own address, `within` and what a data abort is must be.

-- what a byte meets by its own translation, and where it lies; an address is 64 bits
abbrev pub met_by : ℕ → ℕ → Answer → Option Fault
met_by base len (Ok pa) = if within base len 1 (wrap pa) then None else Some external
met_by base len (Err f) = Some f

abbrev pub found_by : Answer → Option ℕ
found_by (Ok pa) = Some (wrap pa)
found_by (Err f) = None

abbrev pub own_fails : Core → ℕ → List ℕ → ℕ → Kind → ℕ → Option Fault
own_fails c base ram va kind i = met_by base (length ram) (own_answer c (word_at base ram 8) va kind i)

abbrev pub own_lies : Core → ℕ → List ℕ → ℕ → Kind → ℕ → Option ℕ
own_lies c base ram va kind i = found_by (own_answer c (word_at base ram 8) va kind i)

-- n bytes from va on take two pages: stage 1 is on, and the last lies past the end of the page of 4096
abbrev pub Crosses : Core → ℕ → ℕ → Type 0
Crosses c va n = (on_now c ≡ true) × (4096 < va % 4096 + n)

-- byte i is the lowest of n that fails, by f
pub record LowestOwn (c : Core) (base : ℕ) (ram : List ℕ) (va : ℕ) (kind : Kind) (n i : ℕ) (f : Fault) : Type 0 where
  pub below : i < n
  pub here : own_fails c base ram va kind i ≡ Some f
  pub before : (j : ℕ) → j < i → own_fails c base ram va kind j ≡ None

abbrev pub LoadDecided : Type 0
LoadDecided =
    (c : Core) (base : ℕ) (ram : List ℕ) (va n i : ℕ) (f : Fault) → Ready c base ram va n Read → Crosses c va n
    → LowestOwn c base ram va Read n i f
    → ((read_of c base ram va n).answer ≡ Err (data_abort (wrap (va + i)) false f))
    × ((read_of c base ram va n).core.abort_pa ≡ unwrap_or (own_lies c base ram va Read i) c.abort_pa)

abbrev pub StoreDecided : Type 0
StoreDecided =
    (c : Core) (base : ℕ) (ram : List ℕ) (va n i : ℕ) (f : Fault) → Ready c base ram va n Write → Crosses c va n
    → LowestOwn c base ram va Write n i f
    → ((write_of c base ram va n).answer ≡ Err (data_abort (wrap (va + i)) true f))
    × ((write_of c base ram va n).core.abort_pa ≡ unwrap_or (own_lies c base ram va Write i) c.abort_pa)

-- where no byte fails, it does not abort
abbrev pub NoneDecides : Type 0
NoneDecides =
    (c : Core) (base : ℕ) (ram : List ℕ) (va n : ℕ) → Crosses c va n
    → (Ready c base ram va n Read → ((i : ℕ) → i < n → own_fails c base ram va Read i ≡ None) → (v : ℕ) × ((read_of c base ram va n).answer ≡ Ok v))
    × (Ready c base ram va n Write → ((i : ℕ) → i < n → own_fails c base ram va Write i ≡ None) → (write_of c base ram va n).answer ≡ Ok tt)
