-- The pages of a window one by one, on plain values.
use Rattle.std.specs.Prelude.{◌≡◌, ℕ, ◌+◌, ◌/◌, ◌<◌, ◌≤◌, List, length, take, Option, Some, None, Ok, Err, slice_set, filter_map}
use Rattle.std.proofs.Common.{sym, ap, ◌∙◌, add-one, length-set, arith}
use Rattle.std.proofs.Math.Seq.{take-suc-set}
use Rattle.fault.specs.declared.Fault.{Fault}
use Rattle.sysreg.specs.declared.regs.Regime.{Regime}
use Rattle.walk.specs.declared.regime.Bank.{Bank}
use Rattle.tlb.specs.Answers.{Answer}
use Rattle.windows.specs.Window.{below, first_in}
use Rattle.windows.specs.Pages.{fault_in, frame_in, page_answer, frames_in, faults_in}
use Rattle.windows.specs.declared.{list.Window.Window, pages.PageFault.PageFault}
use Rattle.windows.proofs.First.{least, least-zero, least-none, least-some, first-filter_map, below-more, below-none}

module _ (s : Bank) (r : Regime) (memory : ℕ → Option ℕ) (i : ℕ) (w : Window) where
  abbrev pub page_fault : ℕ → Option PageFault
  page_fault j = fault_in i j (page_answer s r memory w j)

  abbrev pub page_frame : ℕ → Option ℕ
  page_frame j = frame_in (page_answer s r memory w j)

  -- no page below j faults, and the row begins with their physical pages
  pub record Filled (j : ℕ) (row : List ℕ) : Type 0 where
    pub no_fault : least page_fault j ≡ None
    pub pages : take j row ≡ filter_map page_frame (below j)
    pub long : length row ≡ 16

  pub filled-none : (row : List ℕ) → length row ≡ 16 → Filled 0 row
  filled-none row long = record { no_fault = least-zero page_fault; pages = sym (below-none page_frame); long = long }

  pub filled-more : (j pa : ℕ) (row : List ℕ) (x : Answer) → Filled j row → j < 16 → x ≡ page_answer s r memory w j → x ≡ Ok pa
      → Filled (j + 1) (slice_set row j (pa / 4096))
  filled-more j pa row x h l e x-is = grind (arith, least-none, add-one, take-suc-set, below-more, length-set)

  pub filled-fault : (j : ℕ) (row : List ℕ) (x : Answer) (f : Fault) → Filled j row → j < w.pages → x ≡ page_answer s r memory w j → x ≡ Err f
      → first_in (faults_in s r memory i w) ≡ Some (record { window = i; page = j; fault = f })
  filled-fault j row x f h l e x-is =
      first-filter_map page_fault w.pages (λ k. k)
      ∙ least-some page_fault j w.pages (record { window = i; page = j; fault = f }) h.no_fault (ap (fault_in i j) (sym e ∙ x-is)) l

  pub filled-clear : (j : ℕ) (row : List ℕ) → Filled j row → j ≤ w.pages → w.pages ≤ j → first_in (faults_in s r memory i w) ≡ None
  filled-clear j row h l m = grind (arith, first-filter_map)

  pub filled-pages : (j : ℕ) (row : List ℕ) → Filled j row → j ≤ w.pages → w.pages ≤ j → take w.pages row ≡ frames_in s r memory w
  filled-pages j row h l m = let same : j ≡ w.pages = omega arith in rw same at h.pages

pub ruleset filling = (filled-none, filled-more, filled-fault, filled-clear, filled-pages)
