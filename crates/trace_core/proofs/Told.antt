-- A reply by its number and its value alone: of each call what a fault of it tells besides is known.
use Rattle.std.specs.Prelude.{Ok, Err}
use Rattle.std.proofs.Common.{◌≡◌, ℕ, zero, suc, ◌+◌, ◌%◌, ◌^◌, ◌<◌, ◌≤◌, List, length, true, false, Option, Some, None, refl, sym, ap, ◌∙◌, arith}
use Rattle.std.proofs.Common.{le-ltb}
use Rattle.std.proofs.lemmas.Bool.{ne_eqb}
use Rattle.word.specs.declared.ram.Width.{Width}
use Rattle.word.specs.Ram.{word_at, width_of, bytes_in}
use Rattle.fault.specs.First.{first}
use Rattle.exception.specs.Abort.{data_abort_at, insn_abort_at}
use Rattle.exception.specs.declared.kind.Stop.TheVariants as Stop
use Rattle.tlb.specs.Answers.{Answer}
use Rattle.tlb.specs.Translate.{no_work}
use Rattle.tlb.specs.declared.access.Kind.{Kind}
use Rattle.cpu.specs.Bytes.{Placed, Verdict, Got, load_of, insn_of, failed_access, load_end, loaded_from, store_end, store_end_by, fetch_end}
use Rattle.cpu.specs.Bytes.{fetched_from, first_part, verdict_of}
use Rattle.cpu.specs.Check.{translation, reaching, loading, storing, fetching}
use Rattle.cpu.specs.declared.{call.Call.Call, call.Reply.Reply}
use Rattle.cpu.specs.declared.call.Reply.TheVariants.{Refused, Done, Value, Faults, Fault, Stopped}
use Rattle.tlb.specs.declared.access.Kind.TheVariants.{Read, Write}
use Rattle.cpu.specs.declared.Core.{Core}
use Rattle.cpu.specs.Memory.{translate_of, read_of, write_of, fetch_of, fetch_pa_of, data_pa_of}
use Rattle.cpu.specs.Step.{ends, load_by, store_by, refused_or, missed_by, run_of, step_of}
use Rattle.cpu.specs.Work.{load_work_by, store_work_by, run_work, step_work}
use Rattle.cpu.proofs.EveryCallEnds.{number-le}
use Rattle.call_words.specs.Replies.{code_by, value_by, reads_by}
use Rattle.saved.specs.Fits.{Fits}
use Rattle.trace_core.specs.Told.{told, fault_told, data_told, insn_told}
use Rattle.trace_core.proofs.Statuses.{Byte, PlacedByte, stepped-byte, fetched-byte, located-byte}

-- a status, by its number
faulted : (s : ℕ) (finished : Reply) (of : ℕ → Reply) → s < 2 ^ 8 → of s ≡ told (256 + s) finished (of ((256 + s) % 256))
faulted s finished of l =
    rw (ne_eqb (256 + s) 0 (λ e. omega arith), le-ltb (256 + s) 256 (omega arith))
    (let z : s ≡ (256 + s) % 256 = omega arith in ap of z)

past : (n : ℕ) → suc (suc (suc (suc (suc (suc (suc (suc n))))))) ≤ 7 → ⊥
past n l = omega arith

abbrev reply_of : Core → ℕ → List ℕ → Call → Reply
reply_of c base ram call = (step_of c base ram call).reply

-- What a call read, of a caller that has the word in which it is told, which was 0.
abbrev pub TellsReads : Core → ℕ → List ℕ → Call → Type 0
TellsReads c base ram call =
    (n : ℕ) → n ≡ reads_by (reply_of c base ram call) (step_work c base ram call no_work).reads 0 → n ≡ (step_work c base ram call no_work).reads

-- The reply where it is done, by the value, and where it faults, by the number and the value.
module _ (done : ℕ → Reply) (fault : ℕ → ℕ → Reply) where
  abbrev Named : Reply → Type 0
  Named r = r ≡ told (code_by r) (done (value_by r 0)) (fault (code_by r) (value_by r 0))

  -- of an operation that was carried out and read so many descriptors
  abbrev IsTold : Reply → ℕ → Type 0
  IsTold r reads = Named r × (reads_by r reads 0 ≡ reads)

  -- of a caller that has the call's number and value
  abbrev pub Tells : Core → ℕ → List ℕ → Call → Type 0
  Tells c base ram call =
      (n v : ℕ) (r : Reply) → n ≡ code_by (reply_of c base ram call) → v ≡ value_by (reply_of c base ram call) 0
      → r ≡ told n (done v) (fault n v) → r ≡ reply_of c base ram call

  refused : (n : ℕ) → suc n ≤ 7 → Named (Refused (suc n))
  refused zero l = refl
  refused (suc zero) l = refl
  refused (suc (suc zero)) l = refl
  refused (suc (suc (suc zero))) l = refl
  refused (suc (suc (suc (suc zero)))) l = refl
  refused (suc (suc (suc (suc (suc zero))))) l = refl
  refused (suc (suc (suc (suc (suc (suc zero)))))) l = refl
  refused (suc (suc (suc (suc (suc (suc (suc n))))))) l = absurd (past n l)

  -- a check's number, or what the operation says
  told_run : (c : Core) (base : ℕ) (ram : List ℕ) (call : Call) → IsTold (run_of c base ram call).reply (run_work c base ram call no_work).reads → Tells c base ram call
  unfolding step_of
  told_run c base ram call h n v r a b e =
      e ∙ (λ i. told (a i) (done (b i)) (fault (a i) (b i))) ∙ sym (go (missed_by c base ram call) (number-le c base ram call))
    where
      go : (k : ℕ) → k ≤ 7 → Named (refused_or k (λ m. ends c (Refused m)) (run_of c base ram call)).reply
      go zero l = h.0
      go (suc k) l = refused k l

  -- and what it read
  reads_run : (c : Core) (base : ℕ) (ram : List ℕ) (call : Call) → IsTold (run_of c base ram call).reply (run_work c base ram call no_work).reads → TellsReads c base ram call
  unfolding step_of step_work
  reads_run c base ram call h n e = e ∙ go (missed_by c base ram call)
    where
      go : (k : ℕ)
          → reads_by (refused_or k (λ m. ends c (Refused m)) (run_of c base ram call)).reply (refused_or k (λ m. no_work) (run_work c base ram call no_work)).reads 0
          ≡ (refused_or k (λ m. no_work) (run_work c base ram call no_work)).reads
      go zero = h.1
      go (suc k) = refl

-- EACH OPERATION

abbrev faults : ℕ → ℕ → Reply
faults n v = Faults

abbrev read_faults : ℕ → ℕ → Reply
read_faults n v = data_told n v false

abbrev write_faults : ℕ → ℕ → Reply
write_faults n v = data_told n v true

abbrev stored_as : ℕ → Reply
stored_as v = Done

translated : (va : ℕ) (a : Answer) (reads : ℕ) → Byte a → IsTold Value (λ n v. fault_told n va) (translation va a) reads
translated va (Ok pa) reads l = (refl, refl)
translated va (Err f) reads l = (faulted f.fsc (Value 0) (λ s. Fault va (first s)) l, refl)

reached : (a : Option ℕ) (reads : ℕ) → IsTold Value faults (reaching a) reads
reached (Some pa) reads = (refl, refl)
reached None reads = (refl, refl)

loaded : (x : Placed) (last abort base : ℕ) (ram : List ℕ) (va n reads : ℕ) → PlacedByte x → IsTold Value read_faults (loading (load_end x last abort base ram va n).answer) reads
unfolding load_end
loaded (Err failed) last abort base ram va n reads l = go (first_part base (length ram) va failed.first)
  where
    go : (d : Verdict) → IsTold Value read_faults (loading (Err (failed_access d failed va false))) reads
    go (Ok x) = (faulted failed.fault.fsc (Value failed.addr) (λ s. Stopped (Stop.Exception (data_abort_at failed.addr false (first s)))) l, refl)
    go (Err out) = (refl, refl)
loaded (Ok place) last abort base ram va n reads l = go (load_of base ram place n)
  where
    go : (g : Got) → IsTold Value read_faults (loading (loaded_from place g abort va).answer) reads
    go (Ok v) = (refl, refl)
    go (Err out) = (refl, refl)

stored : (x : Placed) (abort base : ℕ) (ram : List ℕ) (va n reads : ℕ) → PlacedByte x → IsTold stored_as write_faults (storing (store_end x abort base ram va n).answer) reads
unfolding store_end
stored (Err failed) abort base ram va n reads l = go (first_part base (length ram) va failed.first)
  where
    go : (d : Verdict) → IsTold stored_as write_faults (storing (Err (failed_access d failed va true))) reads
    go (Ok x) = (faulted failed.fault.fsc Done (λ s. Stopped (Stop.Exception (data_abort_at failed.addr true (first s)))) l, refl)
    go (Err out) = (refl, refl)
stored (Ok place) abort base ram va n reads l = go (verdict_of base (length ram) place n)
  where
    go : (d : Verdict) → IsTold stored_as write_faults (storing (store_end_by d abort va).answer) reads
    go (Ok x) = (refl, refl)
    go (Err out) = (refl, refl)

fetched : (a : Answer) (abort base : ℕ) (ram : List ℕ) (va reads : ℕ) → Byte a → IsTold Value (λ n v. insn_told n va) (fetching (fetch_end a abort base ram va).answer) reads
unfolding fetch_end
fetched (Err f) abort base ram va reads l = (faulted f.fsc (Value 0) (λ s. Stopped (Stop.Exception (insn_abort_at va (first s)))) l, refl)
fetched (Ok pa) abort base ram va reads l = go (insn_of base ram pa)
  where
    go : (g : Option ℕ) → IsTold Value (λ n v. insn_told n va) (fetching (fetched_from pa g abort va).answer) reads
    go (Some v) = (refl, refl)
    go None = (refl, refl)

-- EACH CALL: the operation carried out, and what a caller has of it

module _ (c : Core) (fits : Fits c) (base : ℕ) (ram : List ℕ) where
  ran_translation : (kind : Kind) (va : ℕ) → IsTold Value (λ n v. fault_told n va) (run_of c base ram (Call.Translate kind va)).reply (run_work c base ram (Call.Translate kind va) no_work).reads
  unfolding run_of run_work translate_of
  ran_translation kind va = translated va _ _ (stepped-byte c fits (word_at base ram 8) va kind)

  ran_load : (va size : ℕ) → IsTold Value read_faults (run_of c base ram (Call.Load va size)).reply (run_work c base ram (Call.Load va size) no_work).reads
  unfolding run_of run_work read_of
  ran_load va size = go (width_of size)
    where
      go : (s : Option Width) → IsTold Value read_faults (load_by s c base ram va).reply (load_work_by s c base ram va no_work).reads
      go (Some width) = loaded _ _ _ base ram va (bytes_in width) _ (located-byte c fits (word_at base ram 8) va (bytes_in width) Read)
      go None = (refl, refl)

  ran_store : (va size value : ℕ) → IsTold stored_as write_faults (run_of c base ram (Call.Store va size value)).reply (run_work c base ram (Call.Store va size value) no_work).reads
  unfolding run_of run_work write_of
  ran_store va size value = go (width_of size)
    where
      go : (s : Option Width) → IsTold stored_as write_faults (store_by s c base ram va).reply (store_work_by s c base ram va no_work).reads
      go (Some width) = stored _ _ base ram va (bytes_in width) _ (located-byte c fits (word_at base ram 8) va (bytes_in width) Write)
      go None = (refl, refl)

  ran_fetch : (va : ℕ) → IsTold Value (λ n v. insn_told n va) (run_of c base ram (Call.Fetch va)).reply (run_work c base ram (Call.Fetch va) no_work).reads
  unfolding run_of run_work fetch_of
  ran_fetch va = fetched _ _ base ram va _ (fetched-byte c fits (word_at base ram 8) va)

  pub told_translation : (kind : Kind) (va : ℕ) → Tells Value (λ n v. fault_told n va) c base ram (Call.Translate kind va)
  told_translation kind va = told_run Value (λ n v. fault_told n va) c base ram (Call.Translate kind va) (ran_translation kind va)

  pub reads_translation : (kind : Kind) (va : ℕ) → TellsReads c base ram (Call.Translate kind va)
  reads_translation kind va = reads_run Value (λ n v. fault_told n va) c base ram (Call.Translate kind va) (ran_translation kind va)

  pub told_load : (va size : ℕ) → Tells Value read_faults c base ram (Call.Load va size)
  told_load va size = told_run Value read_faults c base ram (Call.Load va size) (ran_load va size)

  pub reads_load : (va size : ℕ) → TellsReads c base ram (Call.Load va size)
  reads_load va size = reads_run Value read_faults c base ram (Call.Load va size) (ran_load va size)

  pub told_store : (va size value : ℕ) → Tells stored_as write_faults c base ram (Call.Store va size value)
  told_store va size value = told_run stored_as write_faults c base ram (Call.Store va size value) (ran_store va size value)

  pub reads_store : (va size value : ℕ) → TellsReads c base ram (Call.Store va size value)
  reads_store va size value = reads_run stored_as write_faults c base ram (Call.Store va size value) (ran_store va size value)

  pub told_fetch : (va : ℕ) → Tells Value (λ n v. insn_told n va) c base ram (Call.Fetch va)
  told_fetch va = told_run Value (λ n v. insn_told n va) c base ram (Call.Fetch va) (ran_fetch va)

  pub reads_fetch : (va : ℕ) → TellsReads c base ram (Call.Fetch va)
  reads_fetch va = reads_run Value (λ n v. insn_told n va) c base ram (Call.Fetch va) (ran_fetch va)

-- a fault of these is told without its status
module _ (c : Core) (base : ℕ) (ram : List ℕ) where
  ran_data_pa : (va : ℕ) → IsTold Value faults (run_of c base ram (Call.DataPa va)).reply (run_work c base ram (Call.DataPa va) no_work).reads
  unfolding run_of run_work
  ran_data_pa va = reached (data_pa_of c (word_at base ram 8) va).answer _

  ran_fetch_pa : (va : ℕ) → IsTold Value faults (run_of c base ram (Call.FetchPa va)).reply (run_work c base ram (Call.FetchPa va) no_work).reads
  unfolding run_of run_work
  ran_fetch_pa va = reached (fetch_pa_of c (word_at base ram 8) va).answer _

  pub told_data_pa : (va : ℕ) → Tells Value faults c base ram (Call.DataPa va)
  told_data_pa va = told_run Value faults c base ram (Call.DataPa va) (ran_data_pa va)

  pub reads_data_pa : (va : ℕ) → TellsReads c base ram (Call.DataPa va)
  reads_data_pa va = reads_run Value faults c base ram (Call.DataPa va) (ran_data_pa va)

  pub told_fetch_pa : (va : ℕ) → Tells Value faults c base ram (Call.FetchPa va)
  told_fetch_pa va = told_run Value faults c base ram (Call.FetchPa va) (ran_fetch_pa va)

  pub reads_fetch_pa : (va : ℕ) → TellsReads c base ram (Call.FetchPa va)
  reads_fetch_pa va = reads_run Value faults c base ram (Call.FetchPa va) (ran_fetch_pa va)
