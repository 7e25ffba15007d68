-- How many descriptors an operation reads, added to what was read before it: those of the walks that its translations make, and AT's of its own
-- walk. Of a memory operation by the very list of translations that its answer, cache and RAM go by.
use Rattle.std.specs.Prelude.{ℕ, zero, suc, ◌+◌, List, Option, Some, None}
use Rattle.word.specs.Bits.{align_down, wrap}
use Rattle.word.specs.Ram.{word_at, width_of, bytes_in}
use Rattle.word.specs.declared.ram.Width.{Width}
use Rattle.walk.specs.Walk.{fresh_reads}
use Rattle.walk.specs.Regime.{bank_of}
use Rattle.tlb.specs.Asks.{works}
use Rattle.tlb.specs.Translate.{read_more, work_missed, work_in, fetch_work_in}
use Rattle.tlb.specs.declared.{access.Kind.Kind, work.Work.Work}
use Rattle.tlb.specs.declared.access.Kind.TheVariants.{Read, Write, Fetch}
use Rattle.system.specs.declared.{decode.AtForm.AtForm, decode.SysOp.SysOp}
use Rattle.system.specs.declared.decode.SysOp.TheVariants.{At, Zva}
use Rattle.cpu.specs.Asks.{access_asks, on_now, asked_now}
use Rattle.cpu.specs.Core.{reg_of}
use Rattle.cpu.specs.Memory.{write_of, ram_after_write}
use Rattle.cpu.specs.Step.{refused_or, missed_by}
use Rattle.cpu.specs.System.{on_stored, op_of}
use Rattle.cpu.specs.declared.Core.{Core}
use Rattle.cpu.specs.declared.call.Call.{Call}
use Rattle.cpu.specs.declared.call.Call.TheVariants.{Translate, DataPa, FetchPa, Load as LoadCall, Store as StoreCall, Fetch as FetchCall, System}

-- A TRANSLATION: one that no hint serves, one by its hint first, that of a fetch

unfoldable pub past_hint_work : Core → (ℕ → Option ℕ) → ℕ → Kind → Work → Work
past_hint_work c memory va kind w = work_missed (asked_now c memory kind va) c.tlb w

unfoldable pub translate_work : Core → (ℕ → Option ℕ) → ℕ → Kind → Work → Work
translate_work c memory va kind w = work_in (asked_now c memory kind va) c.tlb w

unfoldable pub fetch_work : Core → (ℕ → Option ℕ) → ℕ → Work → Work
fetch_work c memory va w = fetch_work_in (asked_now c memory Fetch va) c.tlb w

-- AN ACCESS of n bytes, over one page or two; what memory says of its bytes is nothing to it
unfoldable pub access_work : Core → (ℕ → Option ℕ) → ℕ → ℕ → Kind → Work → Work
access_work c memory va n kind w = works (asked_now c memory) (access_asks (on_now c) va n kind) c.tlb w

abbrev pub read_work : Core → ℕ → List ℕ → ℕ → ℕ → Work → Work
read_work c base ram va n w = access_work c (word_at base ram 8) va n Read w

abbrev pub write_work : Core → ℕ → List ℕ → ℕ → ℕ → Work → Work
write_work c base ram va n w = access_work c (word_at base ram 8) va n Write w

-- A ZEROING: of n stores those begun, the last with its fault
unfoldable pub zero_work : ℕ → Core → ℕ → List ℕ → ℕ → Work → Work
zero_work zero c base ram va w = w
zero_work (suc n) c base ram va w =
    on_stored (write_of c base ram va 8).answer
    (zero_work n (write_of c base ram va 8).core base (ram_after_write c base ram va 8 0) (wrap (va + 8)) (write_work c base ram va 8 w))
    (write_work c base ram va 8 w)

-- AT walks afresh, whatever the cache holds
unfoldable pub at_work : Core → (ℕ → Option ℕ) → AtForm → ℕ → Work → Work
at_work c memory form va w = read_more (fresh_reads (bank_of c.control form.regime) form.regime va memory) w

-- A SYSTEM OPERATION, by what its encoding names
abbrev pub sys_work_by : SysOp → Core → ℕ → List ℕ → ℕ → Work → Work
sys_work_by (At form) c base ram x w = at_work c (word_at base ram 8) form x w
sys_work_by Zva c base ram x w = zero_work 8 c base ram (align_down x 6) w
sys_work_by _ c base ram x w = w

unfoldable pub sys_work : Core → ℕ → List ℕ → ℕ → ℕ → ℕ → ℕ → ℕ → Work → Work
sys_work c base ram op1 crn crm op2 rt w = sys_work_by (op_of c op1 crn crm op2) c base ram (reg_of c rt) w

-- A CALL: translations, accesses and system operations. A census, windows and a flip walk, and report none; the others read none.
abbrev pub load_work_by : Option Width → Core → ℕ → List ℕ → ℕ → Work → Work
load_work_by (Some n) c base ram va w = read_work c base ram va (bytes_in n) w
load_work_by None c base ram va w = w

abbrev pub store_work_by : Option Width → Core → ℕ → List ℕ → ℕ → Work → Work
store_work_by (Some n) c base ram va w = write_work c base ram va (bytes_in n) w
store_work_by None c base ram va w = w

unfoldable pub run_work : Core → ℕ → List ℕ → Call → Work → Work
run_work c base ram (Translate kind va) w = translate_work c (word_at base ram 8) va kind w
run_work c base ram (DataPa va) w = translate_work c (word_at base ram 8) va Read w
run_work c base ram (FetchPa va) w = fetch_work c (word_at base ram 8) va w
run_work c base ram (LoadCall va size) w = load_work_by (width_of size) c base ram va w
run_work c base ram (StoreCall va size value) w = store_work_by (width_of size) c base ram va w
run_work c base ram (FetchCall va) w = fetch_work c (word_at base ram 8) va w
run_work c base ram (System e) w = sys_work c base ram e.op1 e.crn e.crm e.op2 e.rt w
run_work c base ram _ w = w

-- a refused call reads nothing
unfoldable pub step_work : Core → ℕ → List ℕ → Call → Work → Work
step_work c base ram call w = refused_or (missed_by c base ram call) (λ n. w) (run_work c base ram call w)
