-- The checks said once more, in numbers, and the first that each of a row of calls misses.
use Rattle.std.specs.Prelude.{◌≡◌, ◌^◌, [], ◌∷◌, ℕ, true, false, List, map, replicate}
use Rattle.tlb.specs.declared.access.Kind.TheVariants.{Read}
use Rattle.cpu.specs.Check.{missed_of, core_of, number_missed, refuses}
use Rattle.cpu.specs.declared.call.Call.TheVariants.{Census, Translate, DataPa, FetchPa, Load, Store, Fetch, System, Register, Level, Mark, General}
use Rattle.cpu.specs.declared.call.Call.TheVariants.{Abort, Windows, Flip}
use Rattle.cpu.specs.declared.call.Call.{Call}
use Rattle.exception.specs.declared.kind.Exception.TheVariants as Exception
use Rattle.exception.specs.declared.kind.Stop.TheVariants as Stop
use Rattle.cpu.specs.declared.call.Reply.TheVariants as Reply

-- a table: what stands first in each row is what stands second
abbrev pub RowsHold : {A : Type 0} → List (A × A) → Type 0
RowsHold {A = A} rows = map (λ (r : A × A). r.0) rows ≡ map (λ (r : A × A). r.1) rows

-- Numbers of a census, computed.

-- the numbers, by level, base and length of the window, first address and pages: 1 before 2 before 7; 65,536 pages and one more; a range that ends at
-- 2^64, by an address within its page, and one that passes it; no page at the last address
abbrev pub WorkedNumbers : Type 0
WorkedNumbers =
    RowsHold
    ((missed_of 4 (2 ^ 64) 1 (Census 0 65537), 1)
    ∷ (missed_of 3 (2 ^ 64) 1 (Census 0 65537), 2)
    ∷ (missed_of 3 (2 ^ 64) 0 (Census 0 65537), 7)
    ∷ (missed_of 0 0 0 (Census 0 65536), 0)
    ∷ (missed_of 1 0 0 (Census 0xFFFFFFFFFFFFFFFF 1), 0)
    ∷ (missed_of 2 0 0 (Census 0xFFFFFFFFFFFFFFFF 2), 7)
    ∷ (missed_of 2 0 0 (Census 0xFFFFFFFFF0000000 65536), 0)
    ∷ (missed_of 2 0 0 (Census 0xFFFFFFFFF0001000 65536), 7)
    ∷ (missed_of 3 0 0 (Census 0xFFFFFFFFFFFFFFFF 0), 0)
    ∷ [])

-- The checks 1 to 8 in numbers: docs/SCOPE.md's table said once more, row by row, at each bound and one beyond it.

-- a system operation, by op1, CRn, CRm, op2 and the register
abbrev pub system : ℕ → ℕ → ℕ → ℕ → ℕ → Call
system op1 crn crm op2 rt = System (record { op1 = op1; crn = crn; crm = crm; op2 = op2; rt = rt })

-- the numbers of a call at level 4; at level 3 with a window that passes 2^64, as two bytes at the last address do; and with one that ends there: first of
-- one whose caller handed over all wrong that a check can find, then of one with all right
abbrev pub order : Call → Call → List ℕ
order wrong right =
    missed_of 4 0xFFFFFFFFFFFFFFFF 2 wrong
    ∷ missed_of 3 0xFFFFFFFFFFFFFFFF 2 wrong
    ∷ missed_of 3 0xFFFFFFFFFFFFFFFF 1 wrong
    ∷ missed_of 4 0xFFFFFFFFFFFFFFFF 1 right
    ∷ missed_of 3 0xFFFFFFFFFFFFFFFF 2 right
    ∷ missed_of 3 0xFFFFFFFFFFFFFFFF 1 right
    ∷ []

-- a level above 3 comes before all else; then the window, where the call is handed RAM; then the others
abbrev pub OrderRows : Type 0
OrderRows =
    RowsHold
    ((order (Translate Read 0) (Translate Read 0), 1 ∷ 2 ∷ 0 ∷ 1 ∷ 2 ∷ 0 ∷ [])
    ∷ (order (DataPa 0) (DataPa 0), 1 ∷ 2 ∷ 0 ∷ 1 ∷ 2 ∷ 0 ∷ [])
    ∷ (order (FetchPa 0) (FetchPa 0), 1 ∷ 2 ∷ 0 ∷ 1 ∷ 2 ∷ 0 ∷ [])
    ∷ (order (Load 0 3) (Load 0 8), 1 ∷ 2 ∷ 3 ∷ 1 ∷ 2 ∷ 0 ∷ [])
    ∷ (order (Store 0 3 0) (Store 0 8 0), 1 ∷ 2 ∷ 3 ∷ 1 ∷ 2 ∷ 0 ∷ [])
    ∷ (order (Fetch 0) (Fetch 0), 1 ∷ 2 ∷ 0 ∷ 1 ∷ 2 ∷ 0 ∷ [])
    ∷ (order (system 8 16 16 8 32) (system 7 15 15 7 31), 1 ∷ 2 ∷ 4 ∷ 1 ∷ 2 ∷ 0 ∷ [])
    ∷ (order (Register 0 0) (Register 0xC080 0), 1 ∷ 6 ∷ 6 ∷ 1 ∷ 0 ∷ 0 ∷ [])
    ∷ (order (Level 4) (Level 3), 1 ∷ 1 ∷ 1 ∷ 1 ∷ 0 ∷ 0 ∷ [])
    ∷ (order (Mark true) (Mark true), 1 ∷ 0 ∷ 0 ∷ 1 ∷ 0 ∷ 0 ∷ [])
    ∷ (order (General 32 0) (General 31 0), 1 ∷ 5 ∷ 5 ∷ 1 ∷ 0 ∷ 0 ∷ [])
    ∷ (order (Abort Exception.Undefined) (Abort Exception.Undefined), 1 ∷ 0 ∷ 0 ∷ 1 ∷ 0 ∷ 0 ∷ [])
    ∷ (order (Census 0 65537) (Census 0 65536), 1 ∷ 2 ∷ 7 ∷ 1 ∷ 2 ∷ 0 ∷ [])
    ∷ (order Windows Windows, 1 ∷ 2 ∷ 0 ∷ 1 ∷ 2 ∷ 0 ∷ [])
    ∷ (order (Flip Read true 0) (Flip Read true 0), 1 ∷ 2 ∷ 0 ∷ 1 ∷ 2 ∷ 0 ∷ [])
    ∷ [])

-- of calls with nothing wrong before, at level 0 with an empty window
abbrev pub numbers_of : List Call → List ℕ
numbers_of calls = map (missed_of 0 0 0) calls

-- check 1, by the level that is asked for
abbrev pub LevelRows : Type 0
LevelRows =
    numbers_of (Level 0 ∷ Level 1 ∷ Level 2 ∷ Level 3 ∷ Level 4 ∷ Level 5 ∷ Level 0x100 ∷ Level 0xFFFFFFFFFFFFFFFF ∷ [])
    ≡ (0 ∷ 0 ∷ 0 ∷ 0 ∷ 1 ∷ 1 ∷ 1 ∷ 1 ∷ [])

-- check 2, by base and length: a window that ends a byte below 2^64, at it, a byte and far beyond it
abbrev pub WindowRows : Type 0
WindowRows =
    RowsHold
    ((missed_of 0 0 0xFFFFFFFFFFFFFFFF (Fetch 0), 0)
    ∷ (missed_of 0 0x1000 0xFFFFFFFFFFFFEFFF (Fetch 0), 0)
    ∷ (missed_of 0 0x1000 0xFFFFFFFFFFFFF000 (Fetch 0), 0)
    ∷ (missed_of 0 0x1000 0xFFFFFFFFFFFFF001 (Fetch 0), 2)
    ∷ (missed_of 0 0xFFFFFFFFFFFFFFFF 0 (Fetch 0), 0)
    ∷ (missed_of 0 0xFFFFFFFFFFFFFFFF 0xFFFFFFFFFFFFFFFF (Fetch 0), 2)
    ∷ [])

-- check 3, of a load's sizes and a store's
abbrev pub sizes : List ℕ
sizes = 0 ∷ 1 ∷ 2 ∷ 3 ∷ 4 ∷ 5 ∷ 6 ∷ 7 ∷ 8 ∷ 9 ∷ 16 ∷ 0x100000001 ∷ []

abbrev pub SizeRows : Type 0
SizeRows =
    RowsHold
    ((numbers_of (map (Load 0) sizes), 3 ∷ 0 ∷ 0 ∷ 3 ∷ 0 ∷ 3 ∷ 3 ∷ 3 ∷ 0 ∷ 3 ∷ 3 ∷ 3 ∷ [])
    ∷ (numbers_of (map (λ (n : ℕ). Store 0 n 0) sizes), 3 ∷ 0 ∷ 0 ∷ 3 ∷ 0 ∷ 3 ∷ 3 ∷ 3 ∷ 0 ∷ 3 ∷ 3 ∷ 3 ∷ [])
    ∷ [])

-- checks 4 and 5 of a system operation
abbrev pub SystemRows : Type 0
SystemRows =
    RowsHold
    ((numbers_of (system 7 0 0 0 0 ∷ system 8 0 0 0 0 ∷ []), 0 ∷ 4 ∷ [])
    ∷ (numbers_of (system 0 15 0 0 0 ∷ system 0 16 0 0 0 ∷ []), 0 ∷ 4 ∷ [])
    ∷ (numbers_of (system 0 0 15 0 0 ∷ system 0 0 16 0 0 ∷ []), 0 ∷ 4 ∷ [])
    ∷ (numbers_of (system 0 0 0 7 0 ∷ system 0 0 0 8 0 ∷ []), 0 ∷ 4 ∷ [])
    ∷ (numbers_of (system 0 0 0 0 31 ∷ system 0 0 0 0 32 ∷ system 0 0 0 8 32 ∷ []), 0 ∷ 5 ∷ 4 ∷ [])
    ∷ [])

-- check 5 of a general register
abbrev pub GeneralRows : Type 0
GeneralRows =
    numbers_of (General 0 0 ∷ General 30 0 ∷ General 31 0 ∷ General 32 0 ∷ General 0x100 0 ∷ []) ≡ (0 ∷ 0 ∷ 0 ∷ 5 ∷ 5 ∷ [])

-- check 6: the keys of the registers kept, and some that name none
abbrev pub write : ℕ → Call
write key = Register key 0

abbrev pub NamedKeys : Type 0
NamedKeys =
    numbers_of
    (map write
    (0xC080 ∷ 0xE080 ∷ 0xF080 ∷ 0xC102 ∷ 0xE102 ∷ 0xF102 ∷ 0xC100 ∷ 0xE100 ∷ 0xF100 ∷ 0xC101 ∷ 0xE088 ∷ 0xF088 ∷ 0xC510 ∷ 0xE510 ∷ 0xF510 ∷ 0xC600
    ∷ 0xE600 ∷ 0xF600 ∷ 0xC201 ∷ 0xE201 ∷ 0xF201 ∷ 0xC200 ∷ 0xE200 ∷ 0xF200 ∷ 0xC290 ∷ 0xE290 ∷ 0xF290 ∷ 0xC300 ∷ 0xE300 ∷ 0xF300 ∷ 0xE000 ∷ 0xE005
    ∷ 0xC3A0
    ∷ []))
    ≡ replicate 33 0

abbrev pub OtherKeys : Type 0
OtherKeys =
    numbers_of (map write (0 ∷ 0xC000 ∷ 0xC081 ∷ 0xE101 ∷ 0xE3A0 ∷ 0xC3A1 ∷ 0x1C080 ∷ 0xFFFFFFFF ∷ [])) ≡ replicate 8 6

-- check 8, by a core's number of four
abbrev pub CoreRows : Type 0
CoreRows =
    map (λ (n : ℕ). number_missed (core_of n)) (0 ∷ 1 ∷ 2 ∷ 3 ∷ 4 ∷ 7 ∷ 0x100 ∷ 0xFFFFFFFFFFFFFFFF ∷ [])
    ≡ (0 ∷ 0 ∷ 0 ∷ 0 ∷ 8 ∷ 8 ∷ 8 ∷ 8 ∷ [])

-- which replies refuse: of the exceptions Undefined alone
abbrev pub RefusalRows : Type 0
RefusalRows =
    RowsHold
    ((refuses (Reply.Refused 1), true)
    ∷ (refuses (Reply.Refused 8), true)
    ∷ (refuses (Reply.Stopped Stop.Unimplemented), true)
    ∷ (refuses (Reply.Stopped (Stop.Exception Exception.Undefined)), true)
    ∷ (refuses (Reply.Stopped (Stop.Exception (Exception.Svc 0))), false)
    ∷ (refuses (Reply.Stopped (Stop.Exception Exception.PcAlignment)), false)
    ∷ (refuses Reply.Done, false)
    ∷ (refuses (Reply.Value 0), false)
    ∷ (refuses Reply.Faults, false)
    ∷ [])
