-- Each byte by its own address: the page it lies in, what a load reads and a store or a DC ZVA leaves there, and what an abort reports.
use Rattle.std.specs.Prelude.{if◌then◌else◌, ◌≡◌, ℕ, ◌+◌, ◌/◌, ◌^◌, ◌<◌, ◌≤◌, false, List, length, ◌==◌, Option, Ok, ◌%◌, true, ◌≢◌, slice_index, Err}
use Rattle.std.specs.Prelude.{◌-◌, ◌*◌, Bool}
use Rattle.word.specs.Bits.{wrap, align_down}
use Rattle.word.specs.Ram.{word_at, within}
use Rattle.tlb.specs.Live.{WellFormed}
use Rattle.tlb.specs.declared.{access.Kind.Kind}
use Rattle.tlb.specs.Answers.{Answer}
use Rattle.tlb.specs.declared.access.Kind.TheVariants.{Read, Write}
use Rattle.system.specs.declared.decode.SysOp.TheVariants.{Zva}
use Rattle.cpu.specs.Bytes.{in_page, byte_in, outside_at, verdict_of, crosses}
use Rattle.cpu.specs.Memory.{translate_of, read_of, write_of, ram_after_write, located_now, fetch_stepped_now, fetch_of}
use Rattle.cpu.specs.Asks.{on_now}
use Rattle.cpu.specs.declared.Core.{Core}
use Rattle.cpu.specs.declared.place.Place.{Place}
use Rattle.cpu.specs.Core.{reg_of}
use Rattle.cpu.specs.System.{zero_of, zero_ram, op_of, sys_of, sys_ram}

-- Where each byte of an access lies, by the byte's own address: byte i of an access to va stands at the virtual address
-- wrap (va + i), and in RAM where the translation of that address says, split or not.

-- the virtual address of byte i
abbrev pub byte_va : ℕ → ℕ → ℕ
byte_va va i = wrap (va + i)

-- What the translation of that address answers: on va's own page in the core as it stands, and on the next page in the
-- core that va's translation leaves, since an access translates them in this order.
abbrev pub own_answer : Core → (ℕ → Option ℕ) → ℕ → Kind → ℕ → Answer
own_answer c memory va kind i =
    if byte_va va i / 4096 == va / 4096 then (translate_of c memory (byte_va va i) kind).answer
    else (translate_of (translate_of c memory va kind).core memory (byte_va va i) kind).answer

-- The core, the window and the access. The last is asked only of an access that leaves its page with stage 1 off, which
-- is not split: there each later byte's own translation is as far behind the first.
pub record Ready (c : Core) (base : ℕ) (ram : List ℕ) (va n : ℕ) (kind : Kind) : Type 0 where
  pub well : WellFormed c.tlb
  pub level : c.privilege.level ≤ 3
  pub address : va < 2 ^ 64
  pub bytes : n ≤ 8
  pub window : base + length ram ≤ 2 ^ 64
  pub flat : on_now c ≡ false → (pa i : ℕ) → (translate_of c (word_at base ram 8) va kind).answer ≡ Ok pa → in_page va ≤ i → i < n
      → (translate_of (translate_of c (word_at base ram 8) va kind).core (word_at base ram 8) (byte_va va i) kind).answer ≡ Ok (pa + i)

-- What a load answers and a store leaves, byte by byte, each byte by its own address: byte i of an access to va stands
-- at the virtual address wrap (va + i). With this `Pages`, `byte_at`, `in_page` and `next_page` need not be believed.

-- byte i of an access by its own address: where its translation says, and that it lies in RAM; an address is 64 bits
pub record OwnByte (c : Core) (base : ℕ) (ram : List ℕ) (va : ℕ) (kind : Kind) (i : ℕ) : Type 0 where
  pub pa : ℕ
  pub answer : own_answer c (word_at base ram 8) va kind i ≡ Ok pa
  pub inside : within base (length ram) 1 (wrap pa) ≡ true

-- byte i of what a load answers is the byte of RAM at the translation of byte i's own address
abbrev pub LoadsOwnBytes : Type 0
LoadsOwnBytes =
    (c : Core) (base : ℕ) (ram : List ℕ) (va n v i : ℕ) → Ready c base ram va n Read → ((k : ℕ) → slice_index ram k < 256)
    → (read_of c base ram va n).answer ≡ Ok v → i < n
    → (o : OwnByte c base ram va Read i) × (v / 256 ^ i % 256 ≡ byte_in base ram (wrap o.pa))

-- after a store that is done, the byte of RAM at the translation of byte i's own address is byte i of the value; where
-- the two pages of a split store share bytes of RAM, that of the later byte
abbrev pub StoresOwnBytes : Type 0
StoresOwnBytes =
    (c : Core) (base : ℕ) (ram : List ℕ) (va n v i : ℕ) → Ready c base ram va n Write
    → (write_of c base ram va n).answer ≡ Ok tt → i < n
    → (o : OwnByte c base ram va Write i)
    × (((j pa : ℕ) → i < j → j < n → own_answer c (word_at base ram 8) va Write j ≡ Ok pa → wrap pa ≢ wrap o.pa)
    → byte_in base (ram_after_write c base ram va n v) (wrap o.pa) ≡ v / 256 ^ i % 256)

-- a store, done or not, leaves every byte of RAM that is at the translation of none of its bytes' own addresses
abbrev pub StoreLeavesOthers : Type 0
StoreLeavesOthers =
    (c : Core) (base : ℕ) (ram : List ℕ) (va n v k : ℕ) → Ready c base ram va n Write → k < length ram
    → ((i pa : ℕ) → i < n → own_answer c (word_at base ram 8) va Write i ≡ Ok pa → wrap pa ≢ base + k)
    → slice_index (ram_after_write c base ram va n v) k ≡ slice_index ram k

-- WITH STAGE 1 OFF an access of n bytes is one translation, of its first byte, and lies whole from there on, also past 2^44

abbrev pub LoadsFlatBytes : Type 0
LoadsFlatBytes =
    (c : Core) (base : ℕ) (ram : List ℕ) (va n pa : ℕ) → on_now c ≡ false → base + length ram ≤ 2 ^ 64 → ((k : ℕ) → slice_index ram k < 256)
    → (translate_of c (word_at base ram 8) va Read).answer ≡ Ok pa → within base (length ram) n pa ≡ true
    → (v : ℕ) × ((read_of c base ram va n).answer ≡ Ok v) × ((i : ℕ) → i < n → v / 256 ^ i % 256 ≡ byte_in base ram (pa + i))

abbrev pub StoresFlatBytes : Type 0
StoresFlatBytes =
    (c : Core) (base : ℕ) (ram : List ℕ) (va n v pa : ℕ) → on_now c ≡ false → base + length ram ≤ 2 ^ 64
    → (translate_of c (word_at base ram 8) va Write).answer ≡ Ok pa → within base (length ram) n pa ≡ true
    → ((write_of c base ram va n).answer ≡ Ok tt)
    × ((i : ℕ) → i < n → byte_in base (ram_after_write c base ram va n v) (pa + i) ≡ v / 256 ^ i % 256)

-- The physical addresses that an access leaves in the core, by the translations of its bytes' own addresses: byte i of an access to va stands at the
-- virtual address wrap (va + i).

-- a load that is placed, whether it then aborts or not, leaves in `last_pa` what the translation of its own address answers
abbrev pub LoadsLeaveOwnFirst : Type 0
LoadsLeaveOwnFirst =
    (c : Core) (base : ℕ) (ram : List ℕ) (va n : ℕ) (place : Place) → (located_now c (word_at base ram 8) va n Read).placed ≡ Ok place
    → (translate_of c (word_at base ram 8) va Read).answer ≡ Ok (read_of c base ram va n).core.last_pa

-- byte i of an access is the lowest outside RAM: `abort_pa` afterwards is what the translation of byte i's own address answers, as 64 bits
abbrev pub AbortedAt : Core → ℕ → List ℕ → ℕ → ℕ → Kind → Core → Type 0
AbortedAt c base ram va n kind after =
    (place : Place) (i q : ℕ) → Ready c base ram va n kind → (located_now c (word_at base ram 8) va n kind).placed ≡ Ok place
    → verdict_of base (length ram) place n ≡ Err (outside_at i q) → i < n
    → (pa : ℕ) × (own_answer c (word_at base ram 8) va kind i ≡ Ok pa) × (wrap after.abort_pa ≡ wrap pa)

abbrev pub LoadLeavesFailing : Type 0
LoadLeavesFailing = (c : Core) (base : ℕ) (ram : List ℕ) (va n : ℕ) → AbortedAt c base ram va n Read (read_of c base ram va n).core

abbrev pub StoreLeavesFailing : Type 0
StoreLeavesFailing = (c : Core) (base : ℕ) (ram : List ℕ) (va n : ℕ) → AbortedAt c base ram va n Write (write_of c base ram va n).core

-- a fetch of whose four bytes one lies outside leaves what its translation answered
abbrev pub FetchLeavesFailing : Type 0
FetchLeavesFailing =
    (c : Core) (base : ℕ) (ram : List ℕ) (va pa : ℕ) → (fetch_stepped_now c (word_at base ram 8) va).answer ≡ Ok pa
    → within base (length ram) 4 pa ≡ false → (fetch_of c base ram va).core.abort_pa ≡ pa

-- What DC ZVA leaves in RAM. Each of its eight stores translates by itself, and RAM may hold the very tables that a
-- store changes. So first by each store's own translation; and then that the eight agree, whatever becomes of the
-- tables: 64 bytes at the translation of the aligned address are zero, and every other byte is as it was.

-- DC ZVA

-- 64 bytes of RAM from pa on are zero, and every other is as it was
pub record Zeroed (base pa : ℕ) (before after : List ℕ) : Type 0 where
  pub inside : within base (length before) 64 pa ≡ true
  pub length-kept : length after ≡ length before
  pub zeros : (i : ℕ) → i < 64 → slice_index after (pa + i - base) ≡ 0
  pub below : (k : ℕ) → base + k < pa → slice_index after k ≡ slice_index before k
  pub above : (k : ℕ) → pa + 64 ≤ base + k → slice_index after k ≡ slice_index before k

-- a zeroing of the line of x that is done: 64 zero bytes at the translation of the aligned address, whatever the stores
-- do to the tables
abbrev pub LineZeroed : Type 0
LineZeroed =
    (c : Core) (base : ℕ) (ram : List ℕ) (x : ℕ) → WellFormed c.tlb → x < 2 ^ 64 → (zero_of 8 c base ram (align_down x 6)).answer ≡ Ok tt
    → (pa : ℕ) × (((translate_of c (word_at base ram 8) (align_down x 6) Write).answer ≡ Ok pa)
    × Zeroed base pa ram (zero_ram 8 c base ram (align_down x 6)))

-- none of its eight stores takes two pages
abbrev pub NeverCrosses : Type 0
NeverCrosses = (on : Bool) (x j : ℕ) → j < 8 → crosses on (align_down x 6 + 8 * j) 8 ≡ false

-- so does the system operation that is DC ZVA
abbrev pub ZvaZeroes : Type 0
ZvaZeroes =
    (c : Core) (base : ℕ) (ram : List ℕ) (op1 crn crm op2 rt : ℕ) → WellFormed c.tlb → reg_of c rt < 2 ^ 64
    → op_of c op1 crn crm op2 ≡ Zva → (sys_of c base ram op1 crn crm op2 rt).answer ≡ Ok tt
    → (pa : ℕ) × (((translate_of c (word_at base ram 8) (align_down (reg_of c rt) 6) Write).answer ≡ Ok pa)
    × Zeroed base pa ram (sys_ram c base ram op1 crn crm op2 rt))
