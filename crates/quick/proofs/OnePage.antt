-- A load of one page, by its one translation, on plain values.
use Rattle.std.proofs.Common.{rules, refl, sym, ap, ◌∙◌, arith}
use Rattle.std.specs.Prelude.{◌≡◌, true, false, ◌^◌, ◌<◌, ◌≤◌, List, ℕ, Option, Some, None, Ok, Err}
use Rattle.word.specs.Ram.{word_at}
use Rattle.walk.specs.Regime.{stage1_on}
use Rattle.sysreg.specs.Regs.{regime_of}
use Rattle.tlb.specs.Answers.{Answer}
use Rattle.tlb.specs.declared.access.Kind.TheVariants.{Read}
use Rattle.fault.specs.declared.Fault.{Fault}
use Rattle.cpu.specs.Core.{after_access, bank_now, Answered}
use Rattle.cpu.specs.Memory.{stepped_now, located_now, translate_of, loaded_by, read_of, located_of}
use Rattle.cpu.specs.declared.Core.{Core}
use Rattle.cpu.specs.Bytes.{Got, in_page, next_page, crosses, goes_on, placed_one, data_abort, external, load_end, loaded_from, load_of, LoadAnswer}
use Rattle.cpu.specs.declared.place.Place.TheVariants.{Whole, Split}
use Rattle.cpu.proofs.BytesLaws.{whole-value, whole-abort}
use Rattle.cpu.specs.Step.{after_load}
use Rattle.quick.specs.Says.{Tells, ended_of}
use Rattle.tlb.specs.Translate.{hint_in, no_work}
use Rattle.cpu.specs.Work.{read_work}
use Rattle.tlb.specs.declared.work.Work.{Work}
use Rattle.call_words.specs.declared.reply.Report.{Report}
use Rattle.quick.proofs.ByHint.{Moved, hint-serves}
use Rattle.quick.proofs.Works.{one-reads}

module _ (c : Core) (base : ℕ) (ram : List ℕ) (va n : ℕ) (near : n ≤ in_page va) where
  pub stays_in : (a : Answer) → goes_on a (crosses (stage1_on (bank_now c) (regime_of c.privilege.level)) va n) ≡ false
  stays_in a = grind arith

  abbrev ended : Answered Answer → Answered LoadAnswer
  ended t = loaded_by t.core t.core.tlb (load_end (placed_one va t.answer) t.core.last_pa t.core.abort_pa base ram va n)

  read_one : read_of c base ram va n ≡ ended (translate_of c (word_at base ram 8) va Read)
  unfolding read_of located_now located_of translate_of stepped_now after_access
  read_one = rw (stays_in (translate_of c (word_at base ram 8) va Read).answer) refl

  pub ended-is : (d : Core) (a : Answer) → record { core = d; answer = a } ≡ translate_of c (word_at base ram 8) va Read
      → ended_of d a base ram va n ≡ read_of c base ram va n
  ended-is d a et = ap ended et ∙ sym read_one

-- the ends
module _ (d : Core) (base : ℕ) (ram : List ℕ) (va n : ℕ) where
  abbrev by : Answer → Answered LoadAnswer
  by x = ended_of d x base ram va n

  pub end-fault : (f : Fault) (a : Answer) → a ≡ Err f → record { core = d; answer = Err (data_abort va false f) } ≡ by a
  unfolding load_end after_access
  end-fault f a e = ap by (sym e)

  module _ (a : Answer) (pa : ℕ) (e : a ≡ Ok pa) (w : Option ℕ) (ew : w ≡ word_at base ram n pa) where
    abbrev from_ram : Got → Answered LoadAnswer
    from_ram g = loaded_by d d.tlb (loaded_from (Whole pa) g d.abort_pa va)

    pub end-value : (v : ℕ) → w ≡ Some v → record { core = record d { last_pa = pa }; answer = Ok v } ≡ by a
    unfolding load_end after_access
    end-value v q = ap from_ram (whole-value base ram pa n w v ew q) ∙ ap by (sym e)

    pub end-outside : w ≡ None → va < 2 ^ 64 → record { core = record d { last_pa = pa; abort_pa = pa }; answer = Err (data_abort va false external) } ≡ by a
    unfolding load_end after_access
    end-outside q h = grind (arith, whole-abort)

-- a load of one page, by its translation
pub told : (c : Core) (base : ℕ) (ram : List ℕ) (va n : ℕ) (d : Core) (a : Answer) (k : Work) (old : Report) (m : ℕ) (new : Report) (e : Core) → n ≤ in_page va
    → Moved c (word_at base ram 8) va Read d a k → Tells (after_load (ended_of d a base ram va n)) k old m new e
    → Tells (after_load (read_of c base ram va n)) (read_work c base ram va n no_work) old m new e
told c base ram va n d a k old m new e near moved t = grind (arith, ended-is, one-reads)

-- two pages by their hints
module _ (c : Core) (base : ℕ) (ram : List ℕ) (va n pa pa2 v : ℕ) where
  pub two-read : crosses (stage1_on (bank_now c) (regime_of c.privilege.level)) va n ≡ true
      → hint_in c.privilege va Read c.tlb ≡ Some pa → hint_in c.privilege (next_page va) Read c.tlb ≡ Some pa2
      → load_of base ram (Split (record { in_page = in_page va; pa = pa; pa2 = pa2 })) n ≡ Ok v
      → record { core = record c { last_pa = pa }; answer = Ok v } ≡ read_of c base ram va n
  unfolding read_of located_now located_of load_end after_access translate_of stepped_now
  two-read k h h2 w = search (rules, hint-serves)
