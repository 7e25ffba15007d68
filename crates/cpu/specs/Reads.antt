-- What the theorems say of the descriptors that operations and calls read: no sum wraps, and few are read.
use Rattle.std.specs.Prelude.{◌≡◌, ℕ, suc, ◌+◌, ◌^◌, ◌<◌, ◌≤◌, Bool, true, false, List, [], ◌∷◌, Option}
use Rattle.word.specs.Bits.{align_down}
use Rattle.word.specs.Ram.{word_at}
use Rattle.walk.specs.Walk.{fresh_reads}
use Rattle.walk.specs.Regime.{bank_of, stage1_on}
use Rattle.system.specs.declared.{decode.AtForm.AtForm, decode.Encoding.Encoding, decode.SysOp.SysOp}
use Rattle.tlb.specs.Asks.{Ask, onward, answer_of, tlb_ask, work_of}
use Rattle.tlb.specs.Live.{WellFormed}
use Rattle.tlb.specs.Model.{Access}
use Rattle.tlb.specs.Translate.{no_work}
use Rattle.tlb.specs.declared.{access.Kind.Kind, work.Work.Work, Tlb.Tlb}
use Rattle.cpu.specs.Asks.{access_at, access_asks, on_now}
use Rattle.cpu.specs.Core.{bank_now, reg_of}
use Rattle.cpu.specs.Bytes.{crosses}
use Rattle.cpu.specs.Step.{missed_by}
use Rattle.cpu.specs.System.{op_of}
use Rattle.cpu.specs.Work.{access_work, write_work, zero_work, step_work}
use Rattle.cpu.specs.declared.Core.{Core}
use Rattle.cpu.specs.declared.call.Call.{Call}
use Rattle.cpu.specs.declared.call.Call.TheVariants.{Translate, DataPa, FetchPa, Load as LoadCall, Store as StoreCall, Fetch, System}

-- AN ACCESS

module _ (access : Kind → ℕ → Access) where
  -- what one translation reads by itself
  abbrev pub read_by : Ask → Tlb → ℕ
  read_by a t = (work_of access a t no_work).reads

  -- the plain sum over those that are made
  abbrev pub sum_read : List Ask → Tlb → ℕ
  sum_read [] t = 0
  sum_read (a ∷ l) t = read_by a t + onward (answer_of access a t) (sum_read l (tlb_ask access a t)) 0

-- it reads what its translations do, which is not wrapped
abbrev pub SumsReads : Type 0
SumsReads =
    (c : Core) (memory : ℕ → Option ℕ) (va n : ℕ) (kind : Kind)
    → (access_work c memory va n kind no_work).reads
    ≡ sum_read (access_at (bank_now c) c.privilege memory) (access_asks (on_now c) va n kind) c.tlb

-- at most 8, and at most 4 of one page
abbrev pub FewReads : Type 0
FewReads =
    (c : Core) (memory : ℕ → Option ℕ) (va n : ℕ) (kind : Kind)
    → ((access_work c memory va n kind no_work).reads ≤ 8)
    × (crosses (on_now c) va n ≡ false → (access_work c memory va n kind no_work).reads ≤ 4)

-- A ZEROING: at most 32; and on a well-formed cache, where one line is one page, what its first store does
abbrev pub ZeroingFew : Type 0
ZeroingFew = (c : Core) (base : ℕ) (ram : List ℕ) (x : ℕ) → (zero_work 8 c base ram (align_down x 6) no_work).reads ≤ 32

abbrev pub ZeroingByFirst : Type 0
ZeroingByFirst =
    (c : Core) (base : ℕ) (ram : List ℕ) (x : ℕ) (w : Work) → WellFormed c.tlb → x < 2 ^ 64
    → zero_work 8 c base ram (align_down x 6) w ≡ write_work c base ram (align_down x 6) 8 w

-- at most 4
abbrev pub ZeroingFour : Type 0
ZeroingFour =
    (c : Core) (base : ℕ) (ram : List ℕ) (x : ℕ) → WellFormed c.tlb → x < 2 ^ 64 → (zero_work 8 c base ram (align_down x 6) no_work).reads ≤ 4

-- AT: the walk of its form's regime, whatever the cache; with stage 1 off none
abbrev pub AtReads : Type 0
AtReads =
    (c : Core) (base : ℕ) (ram : List ℕ) (e : Encoding) (form : AtForm) → missed_by c base ram (System e) ≡ 0
    → op_of c e.op1 e.crn e.crm e.op2 ≡ SysOp.At form
    → ((step_work c base ram (System e) no_work).reads ≡ fresh_reads (bank_of c.control form.regime) form.regime (reg_of c e.rt) (word_at base ram 8))
    × ((step_work c base ram (System e) no_work).reads ≤ 4)
    × (stage1_on (bank_of c.control form.regime) form.regime ≡ false → (step_work c base ram (System e) no_work).reads ≡ 0)

-- A CALL

-- translations, loads, stores, fetches, AT and zeroing may read; the other system operations, register writes, settings, abort entry, the
-- census, the windows and a flip do not
abbrev pub walks : SysOp → Bool
walks (SysOp.At form) = true
walks SysOp.Zva = true
walks _ = false

abbrev pub reads_tables : Core → Call → Bool
reads_tables c (Translate kind va) = true
reads_tables c (DataPa va) = true
reads_tables c (FetchPa va) = true
reads_tables c (LoadCall va size) = true
reads_tables c (StoreCall va size v) = true
reads_tables c (Fetch va) = true
reads_tables c (System e) = walks (op_of c e.op1 e.crn e.crm e.op2)
reads_tables c _ = false

abbrev pub OthersReadNothing : Type 0
OthersReadNothing =
    (c : Core) (base : ℕ) (ram : List ℕ) (call : Call) (w : Work) → reads_tables c call ≡ false → step_work c base ram call w ≡ w

abbrev pub RefusedReadNothing : Type 0
RefusedReadNothing =
    (c : Core) (base : ℕ) (ram : List ℕ) (call : Call) (w : Work) (n : ℕ) → missed_by c base ram call ≡ suc n → step_work c base ram call w ≡ w

-- of any core; and of one with a well-formed cache and registers of 64 bits, which every list of calls leaves
abbrev pub CallsReadFew : Type 0
CallsReadFew =
    (c : Core) (base : ℕ) (ram : List ℕ) (call : Call)
    → ((step_work c base ram call no_work).reads ≤ 32)
    × (WellFormed c.tlb → ((n : ℕ) → reg_of c n < 2 ^ 64) → (step_work c base ram call no_work).reads ≤ 8)
