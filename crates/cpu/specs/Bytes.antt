-- The bytes of an access: what an access answers, where its bytes lie, which of them move, and how it ends.
use Rattle.std.specs.Prelude.{ℕ, Result, Some, None, if◌then◌else◌, ◌≡◌, zero, suc, ◌+◌, ◌-◌, ◌%◌, ◌<◌, ◌≤◌, Bool, true, false, ◌&&◌, nat_lt, Option}
use Rattle.std.specs.Prelude.{Ok, Err, ◌*◌, ◌/◌, List, length, slice_index}
use Rattle.fault.specs.declared.Fault.{Fault}
use Rattle.exception.specs.declared.{kind.Stop.Stop, kind.Exception.Exception}
use Rattle.word.specs.Bits.{wrap}
use Rattle.word.specs.Ram.{within, little_endian, stored}
use Rattle.tlb.specs.Answers.{Answer}
use Rattle.fault.specs.First.{first}
use Rattle.exception.specs.Abort.{data_abort_at, insn_abort_at}
use Rattle.cpu.specs.declared.{place.Place.Place, place.FaultAt.FaultAt, place.Outside.Outside, place.Pages.Pages}
use Rattle.cpu.specs.declared.place.Place.TheVariants.{Whole, Split}

-- The code's answers: where the bytes of an access lie, whether they lie in RAM, and how an operation ends.
abbrev pub fault_at : ℕ → Fault → FaultAt
fault_at addr f = record { addr = addr; fault = f; first = None }

-- of the second of two pages: the first page's bytes lie from pa on
abbrev pub second_fault_at : ℕ → ℕ → Fault → FaultAt
second_fault_at addr pa f = record { addr = addr; fault = f; first = Some pa }

abbrev pub outside_at : ℕ → ℕ → Outside
outside_at i pa = record { index = i; pa = pa }

-- what the translations of an access found: its place, or a fault and its address
abbrev pub Placed : Type 0
Placed = Result Place FaultAt

-- all bytes lie in RAM, or the lowest that does not
abbrev pub Verdict : Type 0
Verdict = Result Unit Outside

-- the value of a load, or its lowest byte outside RAM
abbrev pub Got : Type 0
Got = Result ℕ Outside

abbrev pub LoadAnswer : Type 0
LoadAnswer = Result ℕ Stop

-- of a store, and of a system operation
abbrev pub StoreAnswer : Type 0
StoreAnswer = Result Unit Stop

abbrev pub FetchAnswer : Type 0
FetchAnswer = Result ℕ Exception

-- Where the bytes of an access lie, and which of them lie outside RAM, by the code's own two parts; `OwnAddress` has it
-- by each byte's own address.

-- the bytes from va to the end of its page
abbrev pub in_page : ℕ → ℕ
in_page va = 4096 - va % 4096

-- the first address of the next page; the last page is followed by the first (O8)
abbrev pub next_page : ℕ → ℕ
next_page va = wrap (va + in_page va)

-- n bytes take two pages; with stage 1 off no access is split
abbrev pub crosses : Bool → ℕ → ℕ → Bool
crosses on va n = on && nat_lt (in_page va) n

-- the second page is translated where the first was allowed
abbrev pub goes_on : Answer → Bool → Bool
goes_on (Ok pa) split = split
goes_on (Err f) split = false

-- what one translation found
abbrev pub placed_one : ℕ → Answer → Placed
placed_one va (Ok pa) = Ok (Whole pa)
placed_one va (Err f) = Err (fault_at va f)

-- what two found: a fault of the second is at the next page's first address
abbrev pub placed_both : ℕ → Answer → Answer → Placed
placed_both va (Ok pa) (Ok pa2) = Ok (Split (record { in_page = in_page va; pa = pa; pa2 = pa2 }))
placed_both va (Ok pa) (Err f) = Err (second_fault_at (next_page va) pa f)
placed_both va (Err f) b = Err (fault_at va f)

abbrev pub first_pa : Place → ℕ
first_pa (Whole pa) = pa
first_pa (Split p) = p.pa

-- the physical address of byte i of a split access
abbrev pub byte_at : Pages → ℕ → ℕ
byte_at p i = if nat_lt i p.in_page then wrap (p.pa + i) else wrap (p.pa2 + (i - p.in_page))

-- the physical address of byte i of any access
abbrev pub address_in : Place → ℕ → ℕ
address_in (Whole pa) i = pa + i
address_in (Split p) i = byte_at p i

-- A split access is judged byte by byte: of n bytes from index i on, the lowest that lies outside RAM.
unfoldable pub first_outside : ℕ → ℕ → Pages → ℕ → ℕ → Verdict
first_outside base len p i zero = Ok tt
first_outside base len p i (suc n) =
    if within base len 1 (byte_at p i) then first_outside base len p (i + 1) n else Err (outside_at i (byte_at p i))

-- Where the second page faults, the first page's bytes are judged: those below in_page va, and no byte of the second.
abbrev pub first_part : ℕ → ℕ → ℕ → Option ℕ → Verdict
first_part base len va (Some pa) = first_outside base len (record { in_page = in_page va; pa = pa; pa2 = 0 }) 0 (in_page va)
first_part base len va None = Ok tt

-- each of its n bytes lies in RAM
pub record Lie (base len : ℕ) (p : Pages) (n : ℕ) : Type 0 where
  pub each : (i : ℕ) → i < n → within base len 1 (byte_at p i) ≡ true

-- Any other access is judged whole, and by its first byte where it is outside.
unfoldable pub verdict_of : ℕ → ℕ → Place → ℕ → Verdict
verdict_of base len (Whole pa) n = if within base len n pa then Ok tt else Err (outside_at 0 pa)
verdict_of base len (Split p) n = first_outside base len p 0 n

-- how many of n bytes come before the first outside
abbrev pub bytes_before : Verdict → ℕ → ℕ
bytes_before (Ok x) n = n
bytes_before (Err out) n = out.index

-- byte i is the lowest that lies outside, of n from index k on
pub record Lowest (base len : ℕ) (p : Pages) (k n i pa : ℕ) : Type 0 where
  pub first : k ≤ i
  pub last : i < k + n
  pub at : pa ≡ byte_at p i
  pub out : within base len 1 pa ≡ false
  pub before : (j : ℕ) → k ≤ j → j < i → within base len 1 (byte_at p j) ≡ true

-- Bytes moved between a value and RAM, the lowest first; OwnAddress.antt has it by each byte's own address.

-- the byte at a physical address, 0 outside RAM
unfoldable pub byte_in : ℕ → List ℕ → ℕ → ℕ
byte_in base ram pa = if within base (length ram) 1 pa then slice_index ram (pa - base) else 0

-- the value of n bytes of a split access from index i on, the lowest first
unfoldable pub split_value : ℕ → List ℕ → Pages → ℕ → ℕ → ℕ
split_value base ram p i zero = 0
split_value base ram p i (suc n) = split_value base ram p (i + 1) n * 256 + byte_in base ram (byte_at p i)

-- the value of n bytes that lie in RAM
abbrev pub value_at : ℕ → List ℕ → Place → ℕ → ℕ
value_at base ram (Whole pa) n = little_endian ram n (pa - base)
value_at base ram (Split p) n = split_value base ram p 0 n

-- nothing, but the lowest byte outside, where there is one
abbrev pub got_by : Verdict → ℕ → Got
got_by (Ok x) v = Ok v
got_by (Err out) v = Err out

-- a load: its value, where all bytes lie in RAM
unfoldable pub load_of : ℕ → List ℕ → Place → ℕ → Got
load_of base ram place n = got_by (verdict_of base (length ram) place n) (value_at base ram place n)

-- RAM after n bytes of a value go to a split access's bytes from index i on, the lowest first
unfoldable pub split_stored : ℕ → Pages → ℕ → ℕ → ℕ → List ℕ → List ℕ
split_stored base p v i zero ram = ram
split_stored base p v i (suc n) ram = split_stored base p (v / 256) (i + 1) n (stored base ram 1 (byte_at p i) v)

-- RAM after a store: a split one keeps the bytes before the first outside
unfoldable pub store_ram : ℕ → List ℕ → Place → ℕ → ℕ → List ℕ
store_ram base ram (Whole pa) n v = stored base ram n pa v
store_ram base ram (Split p) n v = split_stored base p v 0 (bytes_before (verdict_of base (length ram) (Split p) n) n) ram

-- four bytes, or nothing where one of them lies outside
unfoldable pub insn_of : ℕ → List ℕ → ℕ → Option ℕ
insn_of base ram pa = if within base (length ram) 4 pa then Some (little_endian ram 4 (pa - base)) else None

-- How an access ends, after its translations: its answer, and the physical addresses that the core keeps. Exact
-- definitions, on the code's own types. What they mean: `Says`, each answer as the requirement's value or fault;
-- `ByteMeaning`, each byte by its own address.

-- what an access leaves in the core beside its cache, and its answer
pub record LoadEnd : Type 0 where
  pub last_pa : ℕ
  pub abort_pa : ℕ
  pub answer : LoadAnswer

-- of a store or a fetch
pub record End (A : Type 0) : Type 0 where
  pub abort_pa : ℕ
  pub answer : A

-- the status of an external abort
abbrev pub external : Fault
external = first 0x10

abbrev pub data_abort : ℕ → Bool → Fault → Stop
data_abort addr write f = Stop.Exception (data_abort_at addr write f)

-- it reports the virtual address of the lowest failing byte, which wraps
abbrev pub external_abort : ℕ → ℕ → Bool → Stop
external_abort va i write = data_abort (wrap (va + i)) write external

-- FAULTS OF TRANSLATIONS

-- R19: the lowest failing byte decides, a byte of the first page outside RAM, and else the translation's fault
abbrev pub failed_access : Verdict → FaultAt → ℕ → Bool → Stop
failed_access (Ok x) failed va write = data_abort failed.addr write failed.fault
failed_access (Err out) failed va write = external_abort va out.index write

-- `abort_pa` after it
abbrev pub abort_after : Verdict → ℕ → ℕ
abort_after (Ok x) abort = abort
abort_after (Err out) abort = out.pa

-- LOADS

-- `last_pa` is set once the translations have succeeded, `abort_pa` by an external abort
abbrev pub loaded_from : Place → Got → ℕ → ℕ → LoadEnd
loaded_from place (Ok v) abort va = record { last_pa = first_pa place; abort_pa = abort; answer = Ok v }
loaded_from place (Err out) abort va =
    record { last_pa = first_pa place; abort_pa = out.pa; answer = Err (external_abort va out.index false) }

unfoldable pub load_end : Placed → ℕ → ℕ → ℕ → List ℕ → ℕ → ℕ → LoadEnd
load_end (Err failed) last abort base ram va n =
    let part = first_part base (length ram) va failed.first in
    record { last_pa = last; abort_pa = abort_after part abort; answer = Err (failed_access part failed va false) }
load_end (Ok place) last abort base ram va n = loaded_from place (load_of base ram place n) abort va

-- STORES

abbrev pub store_end_by : Verdict → ℕ → ℕ → End StoreAnswer
store_end_by (Ok x) abort va = record { abort_pa = abort; answer = Ok tt }
store_end_by (Err out) abort va = record { abort_pa = out.pa; answer = Err (external_abort va out.index true) }

unfoldable pub store_end : Placed → ℕ → ℕ → List ℕ → ℕ → ℕ → End StoreAnswer
store_end (Err failed) abort base ram va n =
    let part = first_part base (length ram) va failed.first in
    record { abort_pa = abort_after part abort; answer = Err (failed_access part failed va true) }
store_end (Ok place) abort base ram va n = store_end_by (verdict_of base (length ram) place n) abort va

-- a store that faults moves no byte
unfoldable pub store_ram_end : Placed → ℕ → List ℕ → ℕ → ℕ → List ℕ
store_ram_end (Err failed) base ram n v = ram
store_ram_end (Ok place) base ram n v = store_ram base ram place n v

-- FETCHES

abbrev pub fetched_from : ℕ → Option ℕ → ℕ → ℕ → End FetchAnswer
fetched_from pa (Some v) abort va = record { abort_pa = abort; answer = Ok v }
fetched_from pa None abort va = record { abort_pa = pa; answer = Err (insn_abort_at va external) }

unfoldable pub fetch_end : Answer → ℕ → ℕ → List ℕ → ℕ → End FetchAnswer
fetch_end (Err f) abort base ram va = record { abort_pa = abort; answer = Err (insn_abort_at va f) }
fetch_end (Ok pa) abort base ram va = fetched_from pa (insn_of base ram pa) abort va

-- WHERE AN ACCESS WOULD GO

abbrev pub reached_by : Answer → Option ℕ
reached_by (Ok pa) = Some pa
reached_by (Err f) = None
