-- Places and ends said once more, in numbers and by the status.
use Rattle.std.specs.Prelude.{◌≡◌, ℕ, true, false, List, [], ◌∷◌, map, Ok, Err, ◌+◌, ◌^◌, ◌<◌, Bool, length, Option, Some, None}
use Rattle.word.specs.Bits.{flag, wrap}
use Rattle.fault.specs.First.{first}
use Rattle.exception.specs.declared.{kind.Stop.Stop, kind.Exception.Exception}
use Rattle.exception.specs.declared.kind.Exception.TheVariants.{DataAbort, InsnAbort}
use Rattle.word.specs.Ram.{within}
use Rattle.fault.specs.declared.Fault.{Fault}
use Rattle.tlb.specs.Answers.{Answer}
use Rattle.cpu.specs.Bytes.{Placed, LoadAnswer, StoreAnswer, FetchAnswer, fault_at, second_fault_at, in_page, next_page, crosses, placed_both}
use Rattle.cpu.specs.Bytes.{byte_at, load_end, store_end, store_ram_end, fetch_end, outside_at, first_part, verdict_of, address_in}
use Rattle.cpu.specs.declared.place.Pages.{Pages}
use Rattle.cpu.specs.declared.place.Place.TheVariants.{Whole, Split}
use Rattle.cpu.specs.declared.{place.Place.Place, place.FaultAt.FaultAt}
use Rattle.cpu.specs.CheckRows.{RowsHold}

-- Where an access lies and how it ends, in numbers: the first and the last byte of a page, two pages, the addresses that an abort reports and those
-- that the core keeps.

-- WHERE AN ACCESS LIES

-- an access that ends with its page takes that page alone; with stage 1 off none takes two
abbrev pub CrossingRows : Type 0
CrossingRows =
    RowsHold
    ((crosses true 0x40001FF8 8, false)
    ∷ (crosses true 0x40001FF9 8, true)
    ∷ (crosses true 0x40001FFC 4, false)
    ∷ (crosses true 0x40001FFD 4, true)
    ∷ (crosses true 0x40001FFF 1, false)
    ∷ (crosses true 0x40001FFF 2, true)
    ∷ (crosses true 0x40001000 8, false)
    ∷ (crosses false 0x40001FFF 8, false)
    ∷ [])

-- the bytes to the end of the page, and the next page's first address: the last page is followed by the first
abbrev pub NextPageRows : Type 0
NextPageRows =
    (in_page 0x40001000 ∷ in_page 0x40001FFD ∷ next_page 0x40001000 ∷ next_page 0x40001FFD ∷ next_page 0xFFFFFFFFFFFFFFFD ∷ [])
    ≡ (4096 ∷ 3 ∷ 0x40002000 ∷ 0x40002000 ∷ 0 ∷ [])

-- the addresses of the bytes of four that begin two bytes before the end of a page
abbrev pub pages : ℕ → Pages
pages pa2 = record { in_page = 2; pa = 0x8FFE; pa2 = pa2 }

abbrev pub ByteRows : Type 0
ByteRows = map (byte_at (pages 0x5000)) (0 ∷ 1 ∷ 2 ∷ 3 ∷ []) ≡ (0x8FFE ∷ 0x8FFF ∷ 0x5000 ∷ 0x5001 ∷ [])

-- a fault of the first page is reported at the access's address, one of the second at that page's first, with where the first page's bytes lie
abbrev pub FaultRows : Type 0
FaultRows =
    RowsHold
    ((placed_both 0x40001FFE (Err (first 0x07)) (Ok 0x5000), Err (fault_at 0x40001FFE (first 0x07)))
    ∷ (placed_both 0x40001FFE (Err (first 0x07)) (Err (first 0x0F)), Err (fault_at 0x40001FFE (first 0x07)))
    ∷ (placed_both 0x40001FFE (Ok 0x8FFE) (Err (first 0x0F)), Err (second_fault_at 0x40002000 0x8FFE (first 0x0F)))
    ∷ (placed_both 0xFFFFFFFFFFFFFFFE (Ok 0x8FFE) (Err (first 0x0F)), Err (second_fault_at 0 0x8FFE (first 0x0F)))
    ∷ (placed_both 0x40001FFE (Ok 0x8FFE) (Ok 0x5000), Ok (Split (pages 0x5000)))
    ∷ [])

-- HOW IT ENDS

-- an abort as numbers: its address, its status, and 1 for a write, 0 for a read, 2 for a fetch
abbrev pub stop_numbers : Stop → List ℕ
stop_numbers (Stop.Exception (DataAbort a)) = a.addr ∷ a.fault.fsc ∷ flag a.write 1 ∷ []
stop_numbers (Stop.Exception (InsnAbort a)) = a.addr ∷ a.fault.fsc ∷ 2 ∷ []
stop_numbers _ = []

abbrev pub load_answer : LoadAnswer → List ℕ
load_answer (Ok v) = v ∷ []
load_answer (Err s) = stop_numbers s

abbrev pub store_answer : StoreAnswer → List ℕ
store_answer (Ok x) = []
store_answer (Err s) = stop_numbers s

abbrev pub fetch_answer : FetchAnswer → List ℕ
fetch_answer (Ok v) = v ∷ []
fetch_answer (Err e) = stop_numbers (Stop.Exception e)

-- what the core keeps, `last_pa` and `abort_pa`, which were 1 and 2, and the value or the abort: of a load, of a store of 0xDDCCBBAA, with RAM, and of a fetch
abbrev pub bytes4 : List ℕ
bytes4 = 0x11 ∷ 0x22 ∷ 0x33 ∷ 0x44 ∷ []

abbrev pub loads : Placed → ℕ → ℕ → ℕ → List ℕ
loads placed base va n = let e = load_end placed 1 2 base bytes4 va n in e.last_pa ∷ e.abort_pa ∷ load_answer e.answer

abbrev pub stores : Placed → ℕ → ℕ → ℕ → List (List ℕ)
stores placed base va n =
    let e = store_end placed 2 base bytes4 va n in
    (e.abort_pa ∷ store_answer e.answer) ∷ store_ram_end placed base bytes4 n 0xDDCCBBAA ∷ []

abbrev pub fetches : Answer → ℕ → List ℕ → ℕ → List ℕ
fetches at base ram va = let e = fetch_end at 2 base ram va in e.abort_pa ∷ fetch_answer e.answer

-- where the second page faults
abbrev pub second : ℕ → Placed
second addr = Err (second_fault_at addr 0x8FFE (first 0x0F))

-- Loads: one page, of each size; the first byte outside, and a later one. A fault of the first page; one of the second, behind no byte outside, behind
-- the second byte and behind the first, and on the space's last page.
-- Two pages: all four bytes in RAM, the pages side by side; the first, the second, the third and the fourth byte the lowest outside; the third at address 0
abbrev pub LoadRows : Type 0
LoadRows =
    RowsHold
    ((loads (Ok (Whole 0x8000)) 0x8000 0x40001000 1, 0x8000 ∷ 2 ∷ 0x11 ∷ [])
    ∷ (loads (Ok (Whole 0x8001)) 0x8000 0x40001001 2, 0x8001 ∷ 2 ∷ 0x3322 ∷ [])
    ∷ (loads (Ok (Whole 0x8000)) 0x8000 0x40001000 4, 0x8000 ∷ 2 ∷ 0x44332211 ∷ [])
    ∷ (loads (Ok (Whole 0x7FFF)) 0x8000 0x40001FFF 1, 0x7FFF ∷ 0x7FFF ∷ 0x40001FFF ∷ 0x10 ∷ 0 ∷ [])
    ∷ (loads (Ok (Whole 0x8002)) 0x8000 0x40001002 4, 0x8002 ∷ 0x8002 ∷ 0x40001002 ∷ 0x10 ∷ 0 ∷ [])
    ∷ (loads (Err (fault_at 0x40001FFE (first 0x0F))) 0x8000 0x40001FFE 4, 1 ∷ 2 ∷ 0x40001FFE ∷ 0x0F ∷ 0 ∷ [])
    ∷ (loads (second 0x40002000) 0x8FFE 0x40001FFE 4, 1 ∷ 2 ∷ 0x40002000 ∷ 0x0F ∷ 0 ∷ [])
    ∷ (loads (second 0x40002000) 0x8FFB 0x40001FFE 4, 1 ∷ 0x8FFF ∷ 0x40001FFF ∷ 0x10 ∷ 0 ∷ [])
    ∷ (loads (second 0x40002000) 0x9000 0x40001FFE 4, 1 ∷ 0x8FFE ∷ 0x40001FFE ∷ 0x10 ∷ 0 ∷ [])
    ∷ (loads (second 0) 0x8FFB 0xFFFFFFFFFFFFFFFE 4, 1 ∷ 0x8FFF ∷ 0xFFFFFFFFFFFFFFFF ∷ 0x10 ∷ 0 ∷ [])
    ∷ (loads (Ok (Split (pages 0x9000))) 0x8FFE 0x40001FFE 4, 0x8FFE ∷ 2 ∷ 0x44332211 ∷ [])
    ∷ (loads (Ok (Split (pages 0x5000))) 0x5000 0x40001FFE 4, 0x8FFE ∷ 0x8FFE ∷ 0x40001FFE ∷ 0x10 ∷ 0 ∷ [])
    ∷ (loads (Ok (Split (pages 0x5000))) 0x8FFB 0x40001FFE 4, 0x8FFE ∷ 0x8FFF ∷ 0x40001FFF ∷ 0x10 ∷ 0 ∷ [])
    ∷ (loads (Ok (Split (pages 0x5000))) 0x8FFC 0x40001FFE 4, 0x8FFE ∷ 0x5000 ∷ 0x40002000 ∷ 0x10 ∷ 0 ∷ [])
    ∷ (loads (Ok (Split (pages 0x9000))) 0x8FFD 0x40001FFE 4, 0x8FFE ∷ 0x9001 ∷ 0x40002001 ∷ 0x10 ∷ 0 ∷ [])
    ∷ (loads (Ok (Split (pages 0x5000))) 0x8FFE 0xFFFFFFFFFFFFFFFE 4, 0x8FFE ∷ 0x5000 ∷ 0 ∷ 0x10 ∷ 0 ∷ [])
    ∷ [])

-- stores: on one page all or nothing, on two the bytes before the lowest outside, and none where the second page faults
abbrev pub StoreRows : Type 0
StoreRows =
    RowsHold
    ((stores (Ok (Whole 0x8001)) 0x8000 0x40001001 2, (2 ∷ []) ∷ (0x11 ∷ 0xAA ∷ 0xBB ∷ 0x44 ∷ []) ∷ [])
    ∷ (stores (Ok (Whole 0x8000)) 0x8000 0x40001000 4, (2 ∷ []) ∷ (0xAA ∷ 0xBB ∷ 0xCC ∷ 0xDD ∷ []) ∷ [])
    ∷ (stores (Ok (Whole 0x8002)) 0x8000 0x40001002 4, (0x8002 ∷ 0x40001002 ∷ 0x10 ∷ 1 ∷ []) ∷ bytes4 ∷ [])
    ∷ (stores (second 0x40002000) 0x8FFE 0x40001FFE 4, (2 ∷ 0x40002000 ∷ 0x0F ∷ 1 ∷ []) ∷ bytes4 ∷ [])
    ∷ (stores (second 0x40002000) 0x8FFB 0x40001FFE 4, (0x8FFF ∷ 0x40001FFF ∷ 0x10 ∷ 1 ∷ []) ∷ bytes4 ∷ [])
    ∷ (stores (Ok (Split (pages 0x9000))) 0x8FFE 0x40001FFE 4, (2 ∷ []) ∷ (0xAA ∷ 0xBB ∷ 0xCC ∷ 0xDD ∷ []) ∷ [])
    ∷ (stores (Ok (Split (pages 0x5000))) 0x5000 0x40001FFE 4, (0x8FFE ∷ 0x40001FFE ∷ 0x10 ∷ 1 ∷ []) ∷ bytes4 ∷ [])
    ∷ (stores (Ok (Split (pages 0x5000))) 0x8FFC 0x40001FFE 4, (0x5000 ∷ 0x40002000 ∷ 0x10 ∷ 1 ∷ []) ∷ (0x11 ∷ 0x22 ∷ 0xAA ∷ 0xBB ∷ []) ∷ [])
    ∷ (stores (Ok (Split (pages 0x9000))) 0x8FFD 0x40001FFE 4, (0x9001 ∷ 0x40002001 ∷ 0x10 ∷ 1 ∷ []) ∷ (0x11 ∷ 0xAA ∷ 0xBB ∷ 0xCC ∷ []) ∷ [])
    ∷ [])

-- a fetch reads four bytes, from any address, and by none of fewer
abbrev pub FetchRows : Type 0
FetchRows =
    RowsHold
    ((fetches (Ok 0x8000) 0x8000 bytes4 0x40001000, 2 ∷ 0x44332211 ∷ [])
    ∷ (fetches (Ok 0x8001) 0x8000 (0x00 ∷ bytes4) 0x40001001, 2 ∷ 0x44332211 ∷ [])
    ∷ (fetches (Ok 0x8001) 0x8000 bytes4 0x40001001, 0x8001 ∷ 0x40001001 ∷ 0x10 ∷ 2 ∷ [])
    ∷ (fetches (Ok 0x7FFF) 0x8000 bytes4 0x40001FFF, 0x7FFF ∷ 0x40001FFF ∷ 0x10 ∷ 2 ∷ [])
    ∷ (fetches (Err (first 0x0F)) 0x8000 bytes4 0x40001000, 2 ∷ 0x40001000 ∷ 0x0F ∷ 2 ∷ [])
    ∷ [])

-- What the ends of an access mean, of every place: which way an abort says that the access went, and which physical addresses the core keeps.

-- whether a data abort reports a write (WnR); another exception says nothing of it
abbrev pub stop_writes : Stop → Option Bool
stop_writes (Stop.Exception (DataAbort a)) = Some a.write
stop_writes _ = None

-- the virtual address that an abort reports
abbrev pub stop_address : Stop → Option ℕ
stop_address (Stop.Exception (DataAbort a)) = Some a.addr
stop_address (Stop.Exception (InsnAbort a)) = Some a.addr
stop_address _ = None

-- whatever the translations found and whatever lies in RAM: a load that stops is a data abort of a read, a store's is one of a write, and a fetch that
-- stops is no data abort and reports its own address
abbrev pub LoadsRead : Type 0
LoadsRead =
    (x : Placed) (last abort base : ℕ) (ram : List ℕ) (va n : ℕ) (s : Stop)
    → (load_end x last abort base ram va n).answer ≡ Err s → stop_writes s ≡ Some false

abbrev pub StoresWrite : Type 0
StoresWrite =
    (x : Placed) (abort base : ℕ) (ram : List ℕ) (va n : ℕ) (s : Stop)
    → (store_end x abort base ram va n).answer ≡ Err s → stop_writes s ≡ Some true

abbrev pub FetchesReport : Type 0
FetchesReport =
    (at : Answer) (abort base : ℕ) (ram : List ℕ) (va : ℕ) (e : Exception)
    → (fetch_end at abort base ram va).answer ≡ Err e → (stop_writes (Stop.Exception e) ≡ None) × (stop_address (Stop.Exception e) ≡ Some va)

-- EXTERNAL ABORTS: byte i is the lowest outside RAM. `abort_pa` is that byte's own physical address, and the address reported is its own virtual one
abbrev pub LoadAborts : Type 0
LoadAborts =
    (place : Place) (last abort base : ℕ) (ram : List ℕ) (va n i pa : ℕ) (s : Stop) → verdict_of base (length ram) place n ≡ Err (outside_at i pa)
    → ((load_end (Ok place) last abort base ram va n).abort_pa ≡ address_in place i)
    × ((load_end (Ok place) last abort base ram va n).answer ≡ Err s → stop_address s ≡ Some (wrap (va + i)))

abbrev pub StoreAborts : Type 0
StoreAborts =
    (place : Place) (abort base : ℕ) (ram : List ℕ) (va n i pa : ℕ) (s : Stop) → verdict_of base (length ram) place n ≡ Err (outside_at i pa)
    → ((store_end (Ok place) abort base ram va n).abort_pa ≡ address_in place i)
    × ((store_end (Ok place) abort base ram va n).answer ≡ Err s → stop_address s ≡ Some (wrap (va + i)))

abbrev pub FetchAborts : Type 0
FetchAborts =
    (pa abort base : ℕ) (ram : List ℕ) (va : ℕ) → within base (length ram) 4 pa ≡ false → (fetch_end (Ok pa) abort base ram va).abort_pa ≡ pa

-- `last_pa` is the first byte's own physical address wherever a load is placed, also where it then aborts
abbrev pub Begins : Place → Type 0
Begins (Whole pa) = pa < 2 ^ 64
Begins (Split p) = (0 < p.in_page) × (p.pa < 2 ^ 64)

abbrev pub LoadsKeepFirst : Type 0
LoadsKeepFirst =
    (place : Place) (last abort base : ℕ) (ram : List ℕ) (va n : ℕ) → Begins place
    → (load_end (Ok place) last abort base ram va n).last_pa ≡ wrap (address_in place 0)

-- a fault of the translations leaves what the core keeps, unless a byte of the first page decides; and an access that is done leaves `abort_pa`
abbrev pub FaultsLeave : Type 0
FaultsLeave =
    (f : FaultAt) (g : Fault) (last abort base : ℕ) (ram : List ℕ) (va n : ℕ)
    → ((load_end (Err f) last abort base ram va n).last_pa ≡ last)
    × (first_part base (length ram) va f.first ≡ Ok tt → (load_end (Err f) last abort base ram va n).abort_pa ≡ abort)
    × (first_part base (length ram) va f.first ≡ Ok tt → (store_end (Err f) abort base ram va n).abort_pa ≡ abort)
    × ((fetch_end (Err g) abort base ram va).abort_pa ≡ abort)

abbrev pub DoneLeaves : Type 0
DoneLeaves =
    (place : Place) (last abort base : ℕ) (ram : List ℕ) (va n : ℕ) → verdict_of base (length ram) place n ≡ Ok tt
    → ((load_end (Ok place) last abort base ram va n).abort_pa ≡ abort)
    × ((store_end (Ok place) abort base ram va n).abort_pa ≡ abort)
