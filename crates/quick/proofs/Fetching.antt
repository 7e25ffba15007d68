-- A fetch, and where one goes, by its one translation; and where a data read goes, on plain values.
use Rattle.std.proofs.Common.{arith, refl, sym, ap, ◌∙◌}
use Rattle.std.specs.Prelude.{◌≡◌, Bool, List, ℕ, Option, Some, None, Ok, Err}
use Rattle.word.specs.Ram.{word_at}
use Rattle.fault.specs.declared.Fault.{Fault}
use Rattle.exception.specs.Abort.{insn_abort_at}
use Rattle.tlb.specs.Answers.{Answer}
use Rattle.tlb.specs.Tlb.{fetch_found}
use Rattle.tlb.specs.Translate.{access_of, miss_in, hint_left as data_hint_left, fetch_left, no_work}
use Rattle.tlb.specs.Model.{Access}
use Rattle.tlb.specs.declared.access.Kind.TheVariants.{Fetch}
use Rattle.tlb.specs.declared.Tlb.{Tlb}
use Rattle.cpu.specs.Core.{after_access, bank_now, Answered}
use Rattle.cpu.specs.Memory.{with_tlb, fetch_stepped_now, past_hint_of, translate_fetch_of, fetch_of, fetch_pa_of, past_hint_step, translate_fetch_in}
use Rattle.cpu.specs.declared.Core.{Core}
use Rattle.cpu.specs.Bytes.{insn_of, external, fetch_end, fetched_from, FetchAnswer}
use Rattle.cpu.specs.Work.{past_hint_work, fetch_work}
use Rattle.tlb.specs.declared.work.Work.{Work}
use Rattle.call_words.specs.declared.reply.Report.{Report}
use Rattle.quick.proofs.ByHint.{Past}
use Rattle.quick.specs.Says.{Tells, fetched_of, reached_of, hint_left, fetch_run, fetch_ended}

-- THE FETCH HINT

-- the translation that a fetch begins with, the core d that it leaves, its answer, and what it read
pub record FetchMoved (c : Core) (memory : ℕ → Option ℕ) (va : ℕ) (d : Core) (x : Answer) (k : Work) : Type 0 where
  pub moved : record { core = d; answer = x } ≡ translate_fetch_of c memory va
  pub read : k ≡ fetch_work c memory va no_work

module _ (c : Core) (memory : ℕ → Option ℕ) (va : ℕ) where
  abbrev a : Access
  a = access_of (bank_now c) c.privilege va Fetch memory

  pub fetch-serves : (pa : ℕ) (k : Work) → fetch_found c.tlb.fetch c.privilege.level va ≡ Some pa → k ≡ no_work → FetchMoved c memory va c (Ok pa) k
  unfolding translate_fetch_of fetch_stepped_now translate_fetch_in after_access fetch_work
  fetch-serves pa k h e = record { moved = sym (rw h refl); read = e ∙ sym (rw h refl) }

  abbrev left : Answered Answer → Answered Answer
  left t = record { core = hint_left t.core va t.answer; answer = t.answer }

  -- a fetch leaves no data hint
  hint-kept : (x : Answer) (t : Tlb) → left (record { core = with_tlb c (data_hint_left c.privilege va Fetch x t); answer = x })
      ≡ record { core = with_tlb c (fetch_left c.privilege.level va x t); answer = x }
  unfolding after_access
  hint-kept x t = grind arith

  fetch-misses : fetch_found c.tlb.fetch c.privilege.level va ≡ None → left (past_hint_of c memory va Fetch) ≡ translate_fetch_of c memory va
  unfolding translate_fetch_of fetch_stepped_now translate_fetch_in past_hint_of past_hint_step
  fetch-misses h = rw h (hint-kept (miss_in a c.tlb).answer (miss_in a c.tlb).after)

  fetch-reads : fetch_found c.tlb.fetch c.privilege.level va ≡ None → past_hint_work c memory va Fetch no_work ≡ fetch_work c memory va no_work
  unfolding fetch_work past_hint_work
  fetch-reads h = rw h refl

  pub fetch-missed : (d e : Core) (x : Answer) (k : Work) → fetch_found c.tlb.fetch c.privilege.level va ≡ None
      → Past c memory va Fetch d x k → e ≡ hint_left d va x → FetchMoved c memory va e x k
  fetch-missed d e x k h p ee = grind (arith, fetch-misses, fetch-reads)

-- THE ENDS OF A FETCH

module _ (d : Core) (base : ℕ) (ram : List ℕ) (va : ℕ) where
  abbrev by : Answer → Answered FetchAnswer
  by x = fetched_of d x base ram va

  pub end-fault : (f : Fault) (x : Answer) → x ≡ Err f → record { core = d; answer = Err (insn_abort_at va f) } ≡ by x
  unfolding fetch_end after_access
  end-fault f x e = ap by (sym e)

  module _ (x : Answer) (pa : ℕ) (e : x ≡ Ok pa) (w : Option ℕ) (ew : w ≡ insn_of base ram pa) where
    abbrev from_ram : Option ℕ → Answered FetchAnswer
    from_ram i = record { core = after_access d d.tlb d.last_pa (fetched_from pa i d.abort_pa va).abort_pa; answer = (fetched_from pa i d.abort_pa va).answer }

    pub end-insn : (v : ℕ) → w ≡ Some v → record { core = d; answer = Ok v } ≡ by x
    unfolding fetch_end after_access
    end-insn v q = ap from_ram (sym q ∙ ew) ∙ ap by (sym e)

    pub end-outside : w ≡ None → record { core = record d { abort_pa = pa }; answer = Err (insn_abort_at va external) } ≡ by x
    unfolding fetch_end after_access
    end-outside q = ap from_ram (sym q ∙ ew) ∙ ap by (sym e)

-- BY THE TRANSLATION

module _ (c : Core) (base : ℕ) (ram : List ℕ) (va : ℕ) (e : Core) (x : Answer) (k : Work) where
  module _ (by_translation : FetchMoved c (word_at base ram 8) va e x k) where
    fetched-is : fetched_of e x base ram va ≡ fetch_of c base ram va
    unfolding fetch_of translate_fetch_of after_access
    fetched-is = ap (λ (t : Answered Answer). fetched_of t.core t.answer base ram va) by_translation.moved

    reached-is : reached_of e x ≡ fetch_pa_of c (word_at base ram 8) va
    unfolding fetch_pa_of translate_fetch_of
    reached-is = ap (λ (t : Answered Answer). reached_of t.core t.answer) by_translation.moved

    pub told : (insn : Bool) (old : Report) (n : ℕ) (new : Report) (f : Core) → Tells (fetch_ended insn e x base ram va) k old n new f
        → Tells (fetch_run insn c base ram va) (fetch_work c (word_at base ram 8) va no_work) old n new f
    told insn old n new f h1 = grind (arith, fetched-is, reached-is)
