-- The checks 1 to 8, in order, and the reply that a call gives.
use Rattle.std.specs.Prelude.{if◌then◌else◌, ℕ, ◌+◌, ◌*◌, ◌^◌, Bool, true, false, not, ◌||◌, List, [], ◌∷◌, nat_lt, Option, Some, None, Result, Ok}
use Rattle.std.specs.Prelude.{Err, is_some}
use Rattle.word.specs.Bits.{align_down}
use Rattle.word.specs.Ram.{width_of}
use Rattle.sysreg.specs.Encoding.{register_at}
use Rattle.sysreg.specs.Write.{names, WriteAnswer}
use Rattle.system.specs.declared.decode.Encoding.{Encoding}
use Rattle.tlb.specs.Answers.{Answer}
use Rattle.sysreg.specs.declared.write.WriteError.TheVariants.{Undefined, NoRegister}
use Rattle.cpu.specs.declared.{call.Call.Call, check.Check.Check}
use Rattle.cpu.specs.declared.call.Call.TheVariants.{Translate, DataPa, FetchPa, Load, Store, Fetch, System, Register, Level, Mark, General, Abort}
use Rattle.cpu.specs.declared.call.Call.TheVariants.{Census, Windows, Flip}
use Rattle.cpu.specs.Bytes.{LoadAnswer, StoreAnswer, FetchAnswer}
use Rattle.cpu.specs.declared.call.Reply.{Reply}
use Rattle.cpu.specs.declared.call.Reply.TheVariants.{Refused, Done, Value, Faults, Fault, Stopped}
use Rattle.exception.specs.declared.kind.Exception.TheVariants as Exception
use Rattle.exception.specs.declared.kind.Stop.TheVariants as Stop

-- The numbers 1 to 8: docs/SCOPE.md, "Where each answer is given".

-- base plus length is above 2^64
abbrev pub passes : ℕ → ℕ → Bool
passes base len = nat_lt (2 ^ 64) (base + len)

-- a size of 1, 2, 4 or 8
abbrev pub known : ℕ → Bool
known size = is_some (width_of size)

-- op1 or op2 above 7, CRn or CRm above 15
abbrev pub unencoded : Encoding → Bool
unencoded e = (nat_lt 7 e.op1 || nat_lt 7 e.op2) || (nat_lt 15 e.crn || nat_lt 15 e.crm)

-- a key that is banked or PAR
abbrev pub kept : ℕ → Bool
kept key = names (register_at key)

-- "more than 65,536 pages or a range that passes 2^64"; a range that ends there does not pass it
abbrev pub overlong : ℕ → ℕ → Bool
overlong first pages = nat_lt 65536 pages || nat_lt (2 ^ 64) (align_down first 12 + pages * 4096)

-- a row of the table: its condition and its number
abbrev pub Row : Type 0
Row = Bool × ℕ

-- the rows of a call that is handed RAM, and of one that has a size besides
abbrev pub ram_rows : ℕ → ℕ → ℕ → List Row
ram_rows level base len = (nat_lt 3 level, 1) ∷ (passes base len, 2) ∷ []

abbrev pub sized_rows : ℕ → ℕ → ℕ → ℕ → List Row
sized_rows level base len size = (nat_lt 3 level, 1) ∷ (passes base len, 2) ∷ (not (known size), 3) ∷ []

-- each call's rows of the table, from top to bottom, by the present level and the window;
-- translations, load, store, fetch, every system operation, the census, the windows and a flip are handed RAM
abbrev pub checks_of : ℕ → ℕ → ℕ → Call → List Row
checks_of level base len (Translate kind va) = ram_rows level base len
checks_of level base len (DataPa va) = ram_rows level base len
checks_of level base len (FetchPa va) = ram_rows level base len
checks_of level base len (Load va size) = sized_rows level base len size
checks_of level base len (Store va size value) = sized_rows level base len size
checks_of level base len (Fetch va) = ram_rows level base len
checks_of level base len (System e) =
    (nat_lt 3 level, 1) ∷ (passes base len, 2) ∷ (unencoded e, 4) ∷ (nat_lt 31 e.rt, 5) ∷ []
checks_of level base len (Register key value) = (nat_lt 3 level, 1) ∷ (not (kept key), 6) ∷ []
checks_of level base len (Level requested) = (nat_lt 3 level || nat_lt 3 requested, 1) ∷ []
checks_of level base len (Mark mark) = (nat_lt 3 level, 1) ∷ []
checks_of level base len (General number value) = (nat_lt 3 level, 1) ∷ (nat_lt 31 number, 5) ∷ []
checks_of level base len (Abort e) = (nat_lt 3 level, 1) ∷ []
checks_of level base len (Census first pages) = (nat_lt 3 level, 1) ∷ (passes base len, 2) ∷ (overlong first pages, 7) ∷ []
checks_of level base len Windows = ram_rows level base len
checks_of level base len (Flip kind user va) = ram_rows level base len

-- the number of the first row whose condition holds, or 0
abbrev pub first_of : List Row → ℕ
first_of [] = 0
first_of (row ∷ rows) = if row.0 then row.1 else first_of rows

-- the number of the first check that a call misses; 0 where it misses none
unfoldable pub missed_of : ℕ → ℕ → ℕ → Call → ℕ
missed_of level base len call = first_of (checks_of level base len call)

-- the number of a check
abbrev pub number_of : Check → ℕ
number_of Check.Level = 1
number_of Check.Window = 2
number_of Check.Size = 3
number_of Check.Encoding = 4
number_of Check.General = 5
number_of Check.Key = 6
number_of Check.Pages = 7
number_of Check.Core = 8

-- the place of the core that has a number, of four
abbrev pub core_of : ℕ → Result ℕ Check
core_of n = if nat_lt 3 n then Err Check.Core else Ok n

-- the number of the check that is missed; 0 where none is
abbrev pub number_missed : {A : Type 0} → Result A Check → ℕ
number_missed (Ok x) = 0
number_missed (Err check) = number_of check

-- Each operation's answer as a reply.
abbrev pub translation : ℕ → Answer → Reply
translation va (Ok pa) = Value pa
translation va (Err f) = Fault va f

abbrev pub loading : LoadAnswer → Reply
loading (Ok v) = Value v
loading (Err s) = Stopped s

abbrev pub storing : StoreAnswer → Reply
storing (Ok x) = Done
storing (Err s) = Stopped s

abbrev pub fetching : FetchAnswer → Reply
fetching (Ok v) = Value v
fetching (Err e) = Stopped (Stop.Exception e)

abbrev pub reaching : Option ℕ → Reply
reaching (Some pa) = Value pa
reaching None = Faults

abbrev pub registering : WriteAnswer → Reply
registering (Ok x) = Done
registering (Err Undefined) = Stopped (Stop.Exception Exception.Undefined)
registering (Err NoRegister) = Refused 6

-- a number, Undefined and Unimplemented: refusals, which change nothing
abbrev pub refuses : Reply → Bool
refuses (Refused n) = true
refuses (Stopped Stop.Unimplemented) = true
refuses (Stopped (Stop.Exception Exception.Undefined)) = true
refuses _ = false
