-- What an access reads, by its one translation or its two.
use Rattle.std.proofs.Common.{arith, ◌≡◌, rules, refl, ap, ◌∙◌, le_trans, mod-eq_of_lt}
use Rattle.std.specs.Prelude.{ℕ, true, false, Bool, Option, Ok, Err, zero, suc, ◌+◌, ◌*◌, ◌/◌, ◌%◌, ◌^◌, ◌<◌, ◌≤◌, ◌==◌, List, length}
use Rattle.fault.specs.declared.Fault.{Fault}
use Rattle.tlb.proofs.Asks.{onward-same}
use Rattle.tlb.specs.declared.{access.Kind.Kind, work.Work.Work, access.Privilege.Privilege, hint.Hint.Hint, Tlb.Tlb}
use Rattle.word.specs.Bits.{wrap}
use Rattle.word.specs.Ram.{word_at}
use Rattle.walk.specs.Walk.{fetches_of, fresh_reads}
use Rattle.walk.specs.Regime.{stage1_on}
use Rattle.walk.proofs.Loop.{few-fetches}
use Rattle.walk.specs.declared.regime.Bank.{Bank}
use Rattle.sysreg.specs.declared.regs.Regime.{Regime}
use Rattle.tlb.specs.Answers.{Answer}
use Rattle.tlb.specs.Asks.{onward, works}
use Rattle.tlb.specs.Tlb.{slot_of, data_slot, hint_key, on_page, entry_at, hint_at, get_of}
use Rattle.tlb.specs.Live.{WellFormed}
use Rattle.tlb.specs.Model.{Access}
use Rattle.tlb.specs.Translate.{access_of, tag_in, tlb_after, no_work, work_tried, work_in}
use Rattle.tlb.proofs.Works.{nothing-read}
use Rattle.tlb.specs.declared.access.Kind.TheVariants.{Write}
use Rattle.system.specs.declared.{decode.AtForm.AtForm}
use Rattle.cpu.specs.Core.{after_access, bank_now, Answered}
use Rattle.cpu.specs.Memory.{stepped_now, translate_of, translate_in, write_of, ram_after_write}
use Rattle.cpu.specs.Asks.{on_now}
use Rattle.cpu.specs.Says.{store as storing}
use Rattle.cpu.specs.Bytes.{next_page, crosses}
use Rattle.cpu.specs.Work.{translate_work, access_work, fetch_work, write_work, zero_work, at_work, sys_work, run_work, step_work}
use Rattle.cpu.specs.declared.Core.{Core}
use Rattle.cpu.specs.Asks.{access_at, asks_by}
use Rattle.cpu.specs.Bare.{Bare}
use Rattle.cpu.specs.Reads.{sum_read, SumsReads, FewReads, ZeroingFew, ZeroingByFirst, ZeroingFour, AtReads, OthersReadNothing, RefusedReadNothing}
use Rattle.cpu.specs.Reads.{CallsReadFew}
use Rattle.cpu.proofs.OpLaws.{kept}
use Rattle.cpu.proofs.PageLaws.{Gives, by-its-hint, by-its-entry, by_itself, gives-page}
use Rattle.cpu.proofs.ZeroLaws.{one-page-only, one-done}
use Rattle.cpu.proofs.ZeroMeaning.{again, begins}
use borrow.Author.Tests.{eq-eqb}

module _ (c : Core) (memory : ℕ → Option ℕ) (va n : ℕ) (kind : Kind) (w : Work) where
  -- where the first translation faults it is the only one
  pub first_work : (f : Fault) → (translate_of c memory va kind).answer ≡ Err f → translate_work c memory va kind w ≡ access_work c memory va n kind w
  unfolding translate_of stepped_now translate_in translate_work access_work
  first_work f e = grind arith

  pub one-work : crosses (on_now c) va n ≡ false → access_work c memory va n kind w ≡ translate_work c memory va kind w
  unfolding translate_work access_work
  one-work e = grind (arith, onward-same)

  -- where it does not, and the access crosses, the next page's follows; of the code's values
  pub second-work : (r : Answered Answer) (v u : Work) (pa next m : ℕ) (on k : Bool) → r ≡ translate_of c memory va kind → v ≡ translate_work c memory va kind w
      → r.answer ≡ Ok pa → on ≡ on_now c → m ≡ n → k ≡ crosses on va m → k ≡ true → next ≡ next_page va
      → u ≡ translate_work r.core memory next kind v → u ≡ access_work c memory va n kind w
  unfolding translate_of stepped_now translate_in translate_work access_work after_access
  second-work r v u pa next m on k er ev e eo em ek k1 en eu = grind (arith, onward-same)

-- How many descriptors an access, a zeroing and a call read.
pub walk-few : (s : Bank) (r : Regime) (va : ℕ) (memory : ℕ → Option ℕ) → length (fetches_of s r va memory) ≤ 4
walk-few s r va memory = grind (arith, le_trans, few-fetches)

pub fresh-few : (s : Bank) (r : Regime) (va : ℕ) (memory : ℕ → Option ℕ) → fresh_reads s r va memory ≤ 4
unfolding fresh_reads
fresh-few s r va memory = grind (arith, walk-few)

-- and with stage 1 off none
pub fresh-none : (s : Bank) (r : Regime) (va : ℕ) (memory : ℕ → Option ℕ) → stage1_on s r ≡ false → fresh_reads s r va memory ≡ 0
unfolding fresh_reads
fresh-none s r va memory e = rw e

-- one translation, by a hint or not: no more than its walk has, and what it reads alone is added
module _ (a : Access) (t : Tlb) (w : Work) where
  pub tried-few : (h : Option ℕ) → (work_tried h a t w).reads ≤ w.reads + a.reads
  tried-few h = grind arith

  pub tried-adds : (h : Option ℕ) → w.reads + a.reads < 2 ^ 64 → (work_tried h a t w).reads ≡ w.reads + (work_tried h a t no_work).reads
  tried-adds h k = grind arith

-- what one translation reads, and what two do, by their answers
sum-one : (x : Answer) (v : Work) → (onward x v v).reads ≡ v.reads + onward x 0 0
sum-one x v = grind arith

sum-two : (x y : Answer) (v u : Work) (m : ℕ) → u.reads ≡ v.reads + m → (onward x (onward y u u) v).reads ≡ v.reads + onward x (m + onward y 0 0) 0
sum-two x y v u m e = grind arith

module _ (c : Core) (memory : ℕ → Option ℕ) (va : ℕ) (kind : Kind) where
  abbrev access : Kind → ℕ → Access
  access = access_at (bank_now c) c.privilege memory

  pub translation-few : (w : Work) → (translate_work c memory va kind w).reads ≤ w.reads + 4
  unfolding translate_work
  translation-few w = search (rules, le_trans, tried-few, walk-few)

  pub fetch-few : (w : Work) → (fetch_work c memory va w).reads ≤ w.reads + 4
  unfolding fetch_work
  fetch-few w = search (rules, le_trans, tried-few, walk-few)

  pub one-page-few : (n : ℕ) (w : Work) → crosses (on_now c) va n ≡ false → (access_work c memory va n kind w).reads ≤ w.reads + 4
  one-page-few n w e = rw (one-work c memory va n kind w e) (translation-few w)

  -- the first translation and the next page's
  abbrev first : Work
  first = work_in (access kind va) c.tlb no_work

  abbrev second : Work
  second = work_in (access kind (next_page va)) (tlb_after (access kind va) c.tlb) first

  both-few : (first.reads ≤ 4) × (second.reads ≤ 8)
  both-few = search (rules, le_trans, tried-few, walk-few)

  second-adds : second.reads ≡ first.reads + (work_in (access kind (next_page va)) (tlb_after (access kind va) c.tlb) no_work).reads
  second-adds = search (rules, tried-adds, walk-few, le_trans, tried-few)

  asked-few : (b : Bool) → (works access (asks_by b va kind) c.tlb no_work).reads ≤ 8
  asked-few b = grind (arith, both-few, onward-same)

  asked-sum : (b : Bool) → (works access (asks_by b va kind) c.tlb no_work).reads ≡ sum_read access (asks_by b va kind) c.tlb
  asked-sum b = grind (arith, sum-two, second-adds, sum-one)

pub sums-reads : SumsReads
unfolding access_work
sums-reads c memory va n kind = search (rules, asked-sum)

pub eight-reads : (c : Core) (memory : ℕ → Option ℕ) (va n : ℕ) (kind : Kind) → (access_work c memory va n kind no_work).reads ≤ 8
unfolding access_work
eight-reads c memory va n kind = search (rules, asked-few)

pub few-reads : FewReads
few-reads c memory va n kind = (eight-reads c memory va n kind, λ e. one-page-few c memory va kind n no_work e)

pub zeroing-few : ZeroingFew
unfolding zero_work
zeroing-few c base ram x = grind (arith, one-page-few, one-page-only)

-- AN ADDRESS THAT THE CACHE GIVES reads nothing
module _ (s : Bank) (privilege : Privilege) (kind : Kind) (memory : ℕ → Option ℕ) (a pa : ℕ) (t : Tlb) (w : Work) where
  abbrev asked : Access
  asked = access_of s privilege a kind memory

  pub given-reads : Gives s privilege kind a pa t → work_in asked t w ≡ w
  unfolding get_of
  given-reads (by-its-hint m e) =
      let key : ((hint_at t (data_slot a kind)).key == hint_key a privilege.level) ≡ true = eq-eqb _ _ (ap (λ (h : Hint). h.key) e) in
      (nothing-read asked t w).1 (on_page (hint_at t (data_slot a kind)).pa a) (rw (m, key))
  given-reads (by-its-entry m o e r p) = (nothing-read asked t w).2 (entry_at t (slot_of (tag_in asked))) (rw e)
  given-reads (by_itself m o p) = (nothing-read asked t w).0 o

-- so do the stores of a line after its first, on a core with the registers, the level and the mark of c
module _ (c : Core) (base va pa : ℕ) (line : va % 64 ≡ 0) (room : va + 64 ≤ 2 ^ 64) (w : Work) where
  store-given : (d : Core) (ram : List ℕ) (a : ℕ) → d.privilege ≡ c.privilege → d.control ≡ c.control → va / 4096 ≡ a / 4096 → a % 8 ≡ 0
      → Gives (bank_now c) c.privilege Write va pa d.tlb → write_work d base ram a 8 w ≡ w
  unfolding translate_work
  store-given d ram a ew ec same even g =
      rw (one-work d (word_at base ram 8) a 8 Write w (one-page-only d base ram a even (on_now d)), ew, ec)
      (given-reads (bank_now c) c.privilege Write (word_at base ram 8) a pa d.tlb w (gives-page (bank_now c) c.privilege Write a same g))

  one-more : (n : ℕ) (d : Core) (ram : List ℕ) (a : ℕ) → write_work d base ram a 8 w ≡ w
      → zero_work n (write_of d base ram a 8).core base (ram_after_write d base ram a 8 0) (wrap (a + 8)) w ≡ w → zero_work (suc n) d base ram a w ≡ w
  unfolding zero_work
  one-more n d ram a one later = grind arith

  pub steady : (n k : ℕ) (d : Core) (ram : List ℕ) → k + n ≤ 8 → d.privilege ≡ c.privilege → d.control ≡ c.control
      → Gives (bank_now c) c.privilege Write va pa d.tlb → zero_work n d base ram (wrap (va + 8 * k)) w ≡ w
  unfolding zero_work
  steady zero k d ram h ew ec g = refl
  steady (suc n) k d ram h ew ec g =
      let here : wrap (va + 8 * k) ≡ va + 8 * k = mod-eq_of_lt (omega arith) in
      let next : va + 8 * k + 8 ≡ va + 8 * suc k = omega arith in
      let b = kept d base ram (storing (va + 8 * k) 8 0) in
      let q = again c d base ram va pa (va + 8 * k) ew ec g (omega arith) (omega arith) in
      rw here
      (one-more n d ram (va + 8 * k) (store-given d ram (va + 8 * k) ew ec (omega arith) (omega arith) g)
      (rw next (steady n (suc k) (write_of d base ram (va + 8 * k) 8).core (ram_after_write d base ram (va + 8 * k) 8 0) (omega arith)
      (ap (λ (x : Bare). x.privilege) b ∙ ew) (ap (λ (x : Bare). x.control) b ∙ ec) q.1)))

-- a zeroing of a line reads what its first store does
module _ (c : Core) (base : ℕ) (ram : List ℕ) (va : ℕ) (w : Work) (well : WellFormed c.tlb) (line : va % 64 ≡ 0) (room : va + 64 ≤ 2 ^ 64) where
  by-first : zero_work 8 c base ram va w ≡ write_work c base ram va 8 w
  unfolding zero_work
  by-first =
      let b = kept c base ram (storing va 8 0) in
      let rest = λ (pa : ℕ) (e : (translate_of c (word_at base ram 8) va Write).answer ≡ Ok pa).
      steady c base va pa line room (write_work c base ram va 8 w) 7 1 (write_of c base ram va 8).core (ram_after_write c base ram va 8 0) (omega arith)
      (ap (λ (z : Bare). z.privilege) b) (ap (λ (z : Bare). z.control) b) (begins c base ram va pa well line room e) in
      grind (arith, rest, one-done c base ram va (omega arith))

pub zeroing-by-first : ZeroingByFirst
zeroing-by-first c base ram x w well small = grind (arith, by-first)

pub zeroing-four : ZeroingFour
zeroing-four c base ram x well small = grind (arith, zeroing-by-first, one-page-few, one-page-only)

-- How many descriptors a call reads.
module _ (c : Core) (base : ℕ) (ram : List ℕ) where
  pub at-few : (form : AtForm) (va : ℕ) → (at_work c (word_at base ram 8) form va no_work).reads ≤ 4
  unfolding at_work
  at-few form va = grind (arith, fresh-few)

pub calls-read-few : CallsReadFew
unfolding step_work run_work sys_work
calls-read-few c base ram call = grind (arith, zeroing-few, le_trans, zeroing-four, translation-few, fetch-few, eight-reads, at-few)

pub others-read-nothing : OthersReadNothing
unfolding step_work run_work sys_work
others-read-nothing c base ram call w e = grind arith

pub refused-read-nothing : RefusedReadNothing
unfolding step_work
refused-read-nothing c base ram call w n e = rw e

pub at-reads : AtReads
unfolding step_work run_work sys_work at_work
at-reads c base ram e form m o = grind (arith, fresh-few, fresh-none)
