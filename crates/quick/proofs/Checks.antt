-- A call by its checks: past them it is its operation, and where one is missed nothing changes.
use Rattle.std.specs.Prelude.{◌≡◌, ◌-◌, ◌^◌, ◌<◌, ◌≤◌, true, false, List, ℕ, length, Option, Some}
use Rattle.std.proofs.Common.{refl, sym, ap, ◌∙◌, arith, subst}
use Rattle.word.specs.Ram.{word_at, width_of, bytes_in}
use Rattle.word.specs.declared.ram.Width.{Width}
use Rattle.tlb.specs.declared.access.Kind.{Kind}
use Rattle.tlb.specs.declared.access.Kind.TheVariants.{Read}
use Rattle.cpu.specs.Memory.{translate_of, data_pa_of, read_of, write_of, ram_after_write}
use Rattle.cpu.specs.declared.Core.{Core}
use Rattle.cpu.specs.Check.{number_of, first_of, ram_rows, sized_rows, missed_of}
use Rattle.cpu.specs.declared.{call.Call.Call, check.Check.Check}
use Rattle.cpu.specs.declared.call.Reply.TheVariants.{Refused}
use Rattle.cpu.specs.System.{sys_of, sys_ram}
use Rattle.system.specs.declared.decode.Encoding.{Encoding}
use Rattle.cpu.specs.declared.call.Call.TheVariants.{Translate, DataPa, FetchPa, Load, Store, Fetch, System}
use Rattle.cpu.specs.Step.{Stepped, after_load, after_store, load_by, store_by, store_ram_by, ends, refused_or, missed_by, run_of, ram_of, step_of}
use Rattle.cpu.specs.Step.{ram_after}
use Rattle.cpu.specs.Work.{translate_work, fetch_work, read_work, write_work, sys_work, load_work_by, store_work_by, run_work, step_work}
use Rattle.tlb.specs.Translate.{no_work}
use Rattle.tlb.specs.declared.work.Work.{Work}
use Rattle.call_words.specs.declared.reply.Report.{Report}
use Rattle.quick.specs.Says.{Tells, ram_checked, asked_run, fetch_run}
use Rattle.quick.proofs.ByHint.{tells, as-told}

module _ (c : Core) (base : ℕ) (ram : List ℕ) (x : Call) where
  module _ (e : 0 ≡ missed_by c base ram x) where
    pub passed : run_of c base ram x ≡ step_of c base ram x
    unfolding step_of
    passed = rw (← e) refl

    pub passed-ram : ram_of c base ram x ≡ ram_after c base ram x
    unfolding ram_after
    passed-ram = rw (← e) refl

    passed-work : run_work c base ram x no_work ≡ step_work c base ram x no_work
    unfolding step_work
    passed-work = rw (← e) refl

    pub told : (old : Report) (n : ℕ) (new : Report) (d : Core) → Tells (run_of c base ram x) (run_work c base ram x no_work) old n new d
        → Tells (step_of c base ram x) (step_work c base ram x no_work) old n new d
    told old n new d t = as-told passed passed-work t

  pub refuses : (k : Check) → number_of k ≡ missed_by c base ram x → ends c (Refused (number_of k)) ≡ step_of c base ram x
  unfolding step_of
  refuses k h1 = grind arith

  pub refused : (k : Check) → number_of k ≡ missed_by c base ram x → (old : Report) (n : ℕ) → n ≡ number_of k
      → Tells (step_of c base ram x) (step_work c base ram x no_work) old n old c
  refused k e old n en = tells _ _ c (Refused (number_of k)) _ n old old (refuses k e) refl en refl refl

  pub refused-ram : (k : Check) → number_of k ≡ missed_by c base ram x → ram ≡ ram_after c base ram x
  unfolding ram_after
  refused-ram k h1 = grind arith

-- the checks at their quickest: a level up to 3, and a window that ends at the last address or before
pub known : (w : Width) → width_of (bytes_in w) ≡ Some w
known w = grind arith

module _ (c : Core) (base : ℕ) (ram : List ℕ) where
  pub clear : c.privilege.level < 4 → length ram < 2 ^ 64 → base ≤ 2 ^ 64 - 1 - length ram → 0 ≡ first_of (ram_rows c.privilege.level base (length ram))
  clear low long fits = grind arith

  pub clear-sized : (w : Width) → c.privilege.level < 4 → length ram < 2 ^ 64 → base ≤ 2 ^ 64 - 1 - length ram
      → 0 ≡ first_of (sized_rows c.privilege.level base (length ram) (bytes_in w))
  clear-sized w low long fits = grind arith

-- a call that is handed RAM and no more
module _ (c : Core) (base : ℕ) (ram : List ℕ) (s : Stepped) (w : Work) where
  pub ram-told : 0 ≡ first_of (ram_rows c.privilege.level base (length ram)) → (old : Report) (n : ℕ) (new : Report) (d : Core) → Tells s w old n new d
      → Tells (ram_checked c base ram s) w old n new d
  ram-told e old n new d t = rw (← e) t

-- where a check is missed nothing was read
module _ (c : Core) (s : Stepped) (w : Work) (old : Report) (n : ℕ) (new : Report) (d : Core) where
  abbrev Checked : ℕ → Work → Type 0
  Checked m k = Tells (refused_or m (λ j. ends c (Refused j)) s) k old n new d

  pub checked-work : (m : ℕ) → Checked m w → Checked m (refused_or m (λ j. no_work) w)
  checked-work m h1 = grind arith

module _ (c : Core) (base : ℕ) (ram : List ℕ) (va : ℕ) (old : Report) (n : ℕ) (new : Report) (d : Core) where
  abbrev rows : ℕ
  rows = first_of (ram_rows c.privilege.level base (length ram))

  abbrev StepTells : Call → Type 0
  StepTells x = Tells (step_of c base ram x) (step_work c base ram x no_work) old n new d

  pub translate-told : (kind : Kind)
      → Tells (ram_checked c base ram (asked_run true va (translate_of c (word_at base ram 8) va kind)))
      (translate_work c (word_at base ram 8) va kind no_work) old n new d
      → StepTells (Translate kind va)
  unfolding step_of run_of missed_of step_work run_work
  translate-told kind t = checked-work c _ _ old n new d rows t

  pub data-told : Tells (ram_checked c base ram (asked_run false va (translate_of c (word_at base ram 8) va Read)))
      (translate_work c (word_at base ram 8) va Read no_work) old n new d
      → StepTells (DataPa va)
  unfolding step_of run_of missed_of data_pa_of translate_of step_work run_work
  data-told t = checked-work c _ _ old n new d rows t

  pub fetch-told : Tells (ram_checked c base ram (fetch_run true c base ram va)) (fetch_work c (word_at base ram 8) va no_work) old n new d
      → StepTells (Fetch va)
  unfolding step_of run_of missed_of step_work run_work
  fetch-told t = checked-work c _ _ old n new d rows t

  pub pa-told : Tells (ram_checked c base ram (fetch_run false c base ram va)) (fetch_work c (word_at base ram 8) va no_work) old n new d
      → StepTells (FetchPa va)
  unfolding step_of run_of missed_of step_work run_work
  pa-told t = checked-work c _ _ old n new d rows t

-- a load, a store
module _ (c : Core) (base : ℕ) (ram : List ℕ) (va : ℕ) where
  pub load-rows : (size n : ℕ) → n ≡ first_of (sized_rows c.privilege.level base (length ram) size) → n ≡ missed_by c base ram (Load va size)
  unfolding missed_of
  load-rows size n e = e

  pub store-rows : (size value n : ℕ) → n ≡ first_of (sized_rows c.privilege.level base (length ram) size) → n ≡ missed_by c base ram (Store va size value)
  unfolding missed_of
  store-rows size value n e = e

  module _ (size : ℕ) (w : Width) (sized : width_of size ≡ Some w) (e : 0 ≡ first_of (sized_rows c.privilege.level base (length ram) size)) where
    pub loaded : (old : Report) (n : ℕ) (new : Report) (d : Core)
        → Tells (after_load (read_of c base ram va (bytes_in w))) (read_work c base ram va (bytes_in w) no_work) old n new d
        → Tells (step_of c base ram (Load va size)) (step_work c base ram (Load va size) no_work) old n new d
    unfolding run_of run_work
    loaded old n new d t =
        told c base ram (Load va size) (load-rows size 0 e) old n new d
        (subst (λ (x : Option Width). Tells (load_by x c base ram va) (load_work_by x c base ram va no_work) old n new d) (sym sized) t)

    module _ (value : ℕ) where
      pub stored : (old : Report) (n : ℕ) (new : Report) (d : Core)
          → Tells (after_store (write_of c base ram va (bytes_in w))) (write_work c base ram va (bytes_in w) no_work) old n new d
          → Tells (step_of c base ram (Store va size value)) (step_work c base ram (Store va size value) no_work) old n new d
      unfolding run_of run_work
      stored old n new d t =
          told c base ram (Store va size value) (store-rows size value 0 e) old n new d
          (subst (λ (x : Option Width). Tells (store_by x c base ram va) (store_work_by x c base ram va no_work) old n new d) (sym sized) t)

      pub stored-ram : (ys : List ℕ) → ys ≡ ram_after_write c base ram va (bytes_in w) value → ys ≡ ram_after c base ram (Store va size value)
      unfolding ram_of
      stored-ram ys q =
          q ∙ ap (λ (x : Option Width). store_ram_by x c base ram va value) (sym sized)
          ∙ passed-ram c base ram (Store va size value) (store-rows size value 0 e)

-- a system operation
module _ (c : Core) (base : ℕ) (ram : List ℕ) (e : Encoding) (p : 0 ≡ missed_by c base ram (System e)) where
  pub system-told : (old : Report) (n : ℕ) (new : Report) (d : Core)
      → Tells (after_store (sys_of c base ram e.op1 e.crn e.crm e.op2 e.rt)) (sys_work c base ram e.op1 e.crn e.crm e.op2 e.rt no_work) old n new d
      → Tells (step_of c base ram (System e)) (step_work c base ram (System e) no_work) old n new d
  unfolding run_of run_work
  system-told old n new d t = told c base ram (System e) p old n new d t

  pub system-ram : (ys : List ℕ) → ys ≡ sys_ram c base ram e.op1 e.crn e.crm e.op2 e.rt → ys ≡ ram_after c base ram (System e)
  unfolding ram_of
  system-ram ys q = q ∙ passed-ram c base ram (System e) p
