-- A store of one page, by its one translation, and of two by their hints, on plain values.
use Rattle.std.proofs.Common.{rules, refl, sym, ap, ◌∙◌, arith, subst}
use Rattle.std.specs.Prelude.{◌≡◌, length, Bool, true, false, ◌-◌, ◌^◌, ◌<◌, ◌≤◌, List, ℕ, Option, Some, Ok, Err}
use Rattle.word.specs.Ram.{word_at, within, stored}
use Rattle.walk.specs.Regime.{stage1_on}
use Rattle.sysreg.specs.Regs.{regime_of}
use Rattle.tlb.specs.Answers.{Answer}
use Rattle.tlb.specs.Translate.{hint_in, no_work}
use Rattle.tlb.specs.declared.access.Kind.TheVariants.{Write}
use Rattle.fault.specs.declared.Fault.{Fault}
use Rattle.cpu.specs.Core.{after_access, bank_now, Answered}
use Rattle.cpu.specs.Memory.{stepped_now, located_now, translate_of, ended_by, write_of, ram_after_write, located_of}
use Rattle.cpu.specs.declared.Core.{Core}
use Rattle.cpu.specs.Bytes.{Verdict, in_page, next_page, crosses, store_ram, data_abort, external, store_end, store_end_by, store_ram_end, StoreAnswer}
use Rattle.quick.specs.AtOnce.{both_inside, both_stored}
use Rattle.cpu.specs.declared.place.Pages.{Pages}
use Rattle.cpu.proofs.BytesLaws.{whole-inside, whole-outside}
use Rattle.quick.proofs.Both.{both-judged, both-stores}
use Rattle.cpu.specs.Step.{after_store}
use Rattle.quick.specs.Says.{Tells, PutTwo, stored_of, put_of}
use Rattle.cpu.specs.Work.{write_work}
use Rattle.tlb.specs.declared.work.Work.{Work}
use Rattle.call_words.specs.declared.reply.Report.{Report}
use Rattle.quick.proofs.ByHint.{Moved, hint-serves}
use Rattle.quick.proofs.Works.{one-reads, two-read-none}
use Rattle.quick.proofs.OnePage.{stays_in}

module _ (c : Core) (base : ℕ) (ram : List ℕ) (va n : ℕ) (near : n ≤ in_page va) where
  abbrev moved : Answered Answer
  moved = translate_of c (word_at base ram 8) va Write

  write_one : write_of c base ram va n ≡ stored_of moved.core moved.answer base ram va n
  unfolding write_of located_now located_of translate_of stepped_now after_access
  write_one = rw (stays_in c base ram va n near (translate_of c (word_at base ram 8) va Write).answer) refl

  put_one : (v : ℕ) → ram_after_write c base ram va n v ≡ put_of moved.answer base ram va n v
  unfolding ram_after_write located_now located_of translate_of stepped_now after_access
  put_one v = rw (stays_in c base ram va n near (translate_of c (word_at base ram 8) va Write).answer) refl

  module _ (d : Core) (a : Answer) (et : record { core = d; answer = a } ≡ translate_of c (word_at base ram 8) va Write) where
    pub stored-is : stored_of d a base ram va n ≡ write_of c base ram va n
    stored-is = ap (λ (t : Answered Answer). stored_of t.core t.answer base ram va n) et ∙ sym write_one

    pub put-is : (v : ℕ) → put_of a base ram va n v ≡ ram_after_write c base ram va n v
    put-is v = ap (λ (t : Answered Answer). put_of t.answer base ram va n v) et ∙ sym (put_one v)

-- the ends
module _ (d : Core) (base : ℕ) (ram : List ℕ) (va n : ℕ) where
  abbrev by : Answer → Answered StoreAnswer
  by x = stored_of d x base ram va n

  abbrev put : ℕ → Answer → List ℕ
  put v x = put_of x base ram va n v

  abbrev judged : Verdict → Answered StoreAnswer
  judged x = ended_by d d.tlb (store_end_by x d.abort_pa va)

  module _ (f : Fault) (a : Answer) (e : a ≡ Err f) where
    pub end-fault : record { core = d; answer = Err (data_abort va true f) } ≡ by a
    unfolding store_end after_access
    end-fault = ap by (sym e)

    pub put-fault : (v : ℕ) → ram ≡ put v a
    unfolding store_ram_end
    put-fault v = ap (put v) (sym e)

  module _ (a : Answer) (pa : ℕ) (e : a ≡ Ok pa) where
    pub put-whole : (v : ℕ) (ys : List ℕ) → ys ≡ stored base ram n pa v → ys ≡ put v a
    unfolding store_ram_end store_ram
    put-whole v ys q = q ∙ ap (put v) (sym e)

    module _ (f : Bool) (ef : f ≡ within base (length ram) n pa) where
      pub end-made : f ≡ true → record { core = d; answer = Ok tt } ≡ by a
      unfolding store_end after_access
      end-made t = ap judged (whole-inside base ram pa n f t ef) ∙ ap by (sym e)

      pub end-outside : f ≡ false → va < 2 ^ 64 → record { core = record d { abort_pa = pa }; answer = Err (data_abort va true external) } ≡ by a
      unfolding store_end after_access
      end-outside t h = grind (arith, whole-outside)

-- a store of one page, by its translation
module _ (c : Core) (base : ℕ) (ram : List ℕ) (va n : ℕ) (near : n ≤ in_page va) (d : Core) (a : Answer) (k : Work)
    (moved : Moved c (word_at base ram 8) va Write d a k) where
  pub told : (old : Report) (m : ℕ) (new : Report) (e : Core) → Tells (after_store (stored_of d a base ram va n)) k old m new e
      → Tells (after_store (write_of c base ram va n)) (write_work c base ram va n no_work) old m new e
  told old m new e t = grind (arith, stored-is, one-reads)

  pub put-told : (v : ℕ) (ys : List ℕ) → ys ≡ put_of a base ram va n v → ys ≡ ram_after_write c base ram va n v
  put-told v ys q = q ∙ put-is c base ram va n near d a moved.moved v

-- two pages by their hints
module _ (c : Core) (base : ℕ) (ram : List ℕ) (va n pa pa2 : ℕ) where
  abbrev memory : ℕ → Option ℕ
  memory = word_at base ram 8

  abbrev pages : Pages
  pages = record { in_page = in_page va; pa = pa; pa2 = pa2 }

  module _ (k : crosses (stage1_on (bank_now c) (regime_of c.privilege.level)) va n ≡ true) (h : hint_in c.privilege va Write c.tlb ≡ Some pa)
      (h2 : hint_in c.privilege (next_page va) Write c.tlb ≡ Some pa2) where
    module _ (long : length ram < 2 ^ 64) where
      two-write : both_inside base (length ram) pages n ≡ true → record { core = c; answer = Ok tt } ≡ write_of c base ram va n
      unfolding write_of store_end after_access located_now located_of translate_of stepped_now
      two-write t = search (rules, both-judged, hint-serves)

      two-put : (v : ℕ) → both_inside base (length ram) pages n ≡ true → both_stored base ram pages n v ≡ ram_after_write c base ram va n v
      unfolding ram_after_write store_ram_end located_now located_of translate_of stepped_now after_access
      two-put v t = search (rules, both-stores, hint-serves)

      -- by the one test
      pub put-two : c.privilege.level < 4 → base ≤ 2 ^ 64 - 1 - length ram → (v : ℕ) (f : Bool) (ys : List ℕ) → f ≡ both_inside base (length ram) pages n → ys ≡ both_stored base ram pages n v
          → PutTwo c base ram va n v f ys
      unfolding both_stored
      put-two low fits v true ys ef ey = (low, fits, two-write (sym ef), two-read-none c memory va n Write pa pa2 k h h2, ey ∙ two-put v (sym ef))
      put-two low fits v false ys ef ey = ey ∙ rw (← ef) refl

-- a store that was made
pub made : (c : Core) (base : ℕ) (ram : List ℕ) (va n v : ℕ) (f : Bool) (ys : List ℕ) → f ≡ true → PutTwo c base ram va n v f ys
    → PutTwo c base ram va n v true ys
made c base ram va n v f ys e p = subst (λ (b : Bool). PutTwo c base ram va n v b ys) e p

-- a store that was not
pub kept : (c : Core) (base : ℕ) (ram : List ℕ) (va n v : ℕ) (f : Bool) (ys : List ℕ) → f ≡ false → PutTwo c base ram va n v f ys → ys ≡ ram
kept c base ram va n v f ys e p = subst (λ (b : Bool). PutTwo c base ram va n v b ys) e p
