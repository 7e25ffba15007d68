-- One call on the core: a number where a check is missed, and else the operation.
use Rattle.std.specs.Prelude.{ℕ, zero, suc, ◌%◌, List, length, Option, Some, None, Bool, true, false, replicate}
use Rattle.word.specs.Ram.{word_at, width_of, bytes_in}
use Rattle.word.specs.declared.ram.Width.{Width}
use Rattle.census.specs.Count.{census_at}
use Rattle.cpu.specs.Core.{set_reg, Answered}
use Rattle.cpu.specs.System.{after_register_write, set_level, set_mark, abort_of, sys_of, sys_ram}
use Rattle.cpu.specs.Memory.{translate_of, read_of, write_of, ram_after_write, fetch_of, fetch_pa_of, data_pa_of}
use Rattle.cpu.specs.declared.Core.{Core}
use Rattle.cpu.specs.Check.{missed_of, translation, loading, storing, fetching, reaching, registering}
use Rattle.cpu.specs.declared.{call.Call.Call, call.Reply.Reply}
use Rattle.cpu.specs.declared.call.Call.TheVariants.{Translate, DataPa, FetchPa, Load as LoadCall, Store as StoreCall, Fetch, System, Register, Level}
use Rattle.cpu.specs.declared.call.Call.TheVariants.{Mark, General, Abort, Census, Windows, Flip}
use Rattle.cpu.specs.declared.call.Reply.TheVariants.{Refused, Done}
use Rattle.cpu.specs.declared.inspect.Censused.{Censused}
use Rattle.cpu.specs.Bytes.{FetchAnswer, LoadAnswer, StoreAnswer}
use Rattle.tlb.specs.Answers.{Answer}
use Rattle.sysreg.specs.Write.{WriteAnswer}

-- the core after a call, and its reply
pub record Stepped : Type 0 where
  pub core : Core
  pub reply : Reply

abbrev pub ends : Core → Reply → Stepped
ends c r = record { core = c; reply = r }

abbrev pub after_translation : ℕ → Answered Answer → Stepped
after_translation va t = ends t.core (translation va t.answer)

abbrev pub after_address : Answered (Option ℕ) → Stepped
after_address t = ends t.core (reaching t.answer)

abbrev pub after_load : Answered LoadAnswer → Stepped
after_load t = ends t.core (loading t.answer)

abbrev pub after_store : Answered StoreAnswer → Stepped
after_store t = ends t.core (storing t.answer)

abbrev pub after_fetch : Answered FetchAnswer → Stepped
after_fetch t = ends t.core (fetching t.answer)

abbrev pub after_write : Answered WriteAnswer → Stepped
after_write t = ends t.core (registering t.answer)

-- a size is 1, 2, 4 or 8, or refusal 3
abbrev pub load_by : Option Width → Core → ℕ → List ℕ → ℕ → Stepped
load_by (Some w) c base ram va = after_load (read_of c base ram va (bytes_in w))
load_by None c base ram va = ends c (Refused 3)

abbrev pub store_by : Option Width → Core → ℕ → List ℕ → ℕ → Stepped
store_by (Some w) c base ram va = after_store (write_of c base ram va (bytes_in w))
store_by None c base ram va = ends c (Refused 3)

abbrev pub store_ram_by : Option Width → Core → ℕ → List ℕ → ℕ → ℕ → List ℕ
store_ram_by (Some w) c base ram va value = ram_after_write c base ram va (bytes_in w) value
store_ram_by None c base ram va value = ram

-- the operation that a call is
unfoldable pub run_of : Core → ℕ → List ℕ → Call → Stepped
run_of c base ram (Translate kind va) = after_translation va (translate_of c (word_at base ram 8) va kind)
run_of c base ram (DataPa va) = after_address (data_pa_of c (word_at base ram 8) va)
run_of c base ram (FetchPa va) = after_address (fetch_pa_of c (word_at base ram 8) va)
run_of c base ram (LoadCall va size) = load_by (width_of size) c base ram va
run_of c base ram (StoreCall va size value) = store_by (width_of size) c base ram va
run_of c base ram (Fetch va) = after_fetch (fetch_of c base ram va)
run_of c base ram (System e) = after_store (sys_of c base ram e.op1 e.crn e.crm e.op2 e.rt)
run_of c base ram (Register key value) = after_write (after_register_write c key value)
run_of c base ram (Level level) = ends (set_level c (level % 4)) Done
run_of c base ram (Mark mark) = ends (set_mark c mark) Done
run_of c base ram (General number value) = ends (set_reg c number value) Done
run_of c base ram (Abort e) = ends (abort_of c e) Done
run_of c base ram (Census first pages) = ends c Done
run_of c base ram Windows = ends c Done
run_of c base ram (Flip kind user va) = ends c Done

-- RAM after it: stores and zeroing write, nothing else does
unfoldable pub ram_of : Core → ℕ → List ℕ → Call → List ℕ
ram_of c base ram (StoreCall va size value) = store_ram_by (width_of size) c base ram va value
ram_of c base ram (System e) = sys_ram c base ram e.op1 e.crn e.crm e.op2 e.rt
ram_of c base ram _ = ram

-- a number changes nothing
abbrev pub refused_or : {A : Type 0} → ℕ → (ℕ → A) → A → A
refused_or zero refused done = done
refused_or (suc n) refused done = refused (suc n)

abbrev pub missed_by : Core → ℕ → List ℕ → Call → ℕ
missed_by c base ram call = missed_of c.privilege.level base (length ram) call

unfoldable pub step_of : Core → ℕ → List ℕ → Call → Stepped
step_of c base ram call = refused_or (missed_by c base ram call) (λ n. ends c (Refused n)) (run_of c base ram call)

unfoldable pub ram_after : Core → ℕ → List ℕ → Call → List ℕ
ram_after c base ram call = refused_or (missed_by c base ram call) (λ n. ram) (ram_of c base ram call)

-- Calls that only look: core and RAM stay. And what a census of the core finds, beside its reply.

-- what they find stands beside the reply
abbrev pub looks : Call → Bool
looks (Census first pages) = true
looks Windows = true
looks (Flip kind user va) = true
looks _ = false

-- A CENSUS, under the core's registers, in its level's regime
abbrev pub counts_of : Core → ℕ → List ℕ → ℕ → ℕ → List ℕ
counts_of c base ram first pages = census_at c.control c.privilege.level (word_at base ram 8) first pages

-- a refused one counts nothing: the counts stay as they were
unfoldable pub counts_after : Core → ℕ → List ℕ → ℕ → ℕ → List ℕ → List ℕ
counts_after c base ram first pages old = refused_or (missed_by c base ram (Census first pages)) (λ n. old) (counts_of c base ram first pages)

unfoldable pub census_by : Core → ℕ → List ℕ → ℕ → ℕ → Censused
census_by c base ram first pages =
    record { counts = counts_after c base ram first pages (replicate 129 0); reply = (step_of c base ram (Census first pages)).reply }
