-- What the laws of an answer speak of: the pages of a list's windows, how each ends, and which windows share one. The laws are the contracts of
-- `theorems`.
use Rattle.std.specs.Prelude.{◌≡◌, ℕ, ◌/◌, ◌<◌, ◌⊎◌, List, length, Option, Ok}
use Rattle.sysreg.specs.Regs.{regime_of}
use Rattle.sysreg.specs.declared.regs.Control.{Control}
use Rattle.walk.specs.Regime.{bank_of}
use Rattle.tlb.specs.Answers.{Answer}
use Rattle.windows.specs.Window.{window}
use Rattle.windows.specs.Pages.{page_answer}
use Rattle.windows.specs.Windows.{Found, found_in}
use Rattle.windows.specs.declared.list.Window.{Window}

-- window i has a page j
pub record IsPage (ws : List Window) (i j : ℕ) : Type 0 where
  pub listed : i < length ws
  pub within : j < (window ws i).pages

-- page j of window i stands before page l of window k: by window, and then by page
abbrev pub Earlier : ℕ → ℕ → ℕ → ℕ → Type 0
Earlier i j k l = (i < k) ⊎ ((i ≡ k) × (j < l))

module _ (control : Control) (level : ℕ) (memory : ℕ → Option ℕ) (ws : List Window) where
  -- how page j of window i ends
  abbrev pub answer_at : ℕ → ℕ → Answer
  answer_at i j = page_answer (bank_of control (regime_of level)) (regime_of level) memory (window ws i) j

  -- a page of window i and one of window k lie on one physical page
  pub record Shared (i k : ℕ) : Type 0 where
    pub page : ℕ
    pub other : ℕ
    pub pa : ℕ
    pub pb : ℕ
    pub first : IsPage ws i page
    pub second : IsPage ws k other
    pub reached : answer_at i page ≡ Ok pa
    pub other_reached : answer_at k other ≡ Ok pb
    pub same : pa / 4096 ≡ pb / 4096

-- a fact of any windows under any registers, level and memory: of the answer, how each page ends, and which windows share one
abbrev pub EachAnswer : (List Window → Found → (ℕ → ℕ → Answer) → (ℕ → ℕ → Type 0) → Type 0) → Type 0
EachAnswer P =
    (control : Control) (level : ℕ) (memory : ℕ → Option ℕ) (ws : List Window)
    → P ws (found_in control level memory ws) (answer_at control level memory ws) (Shared control level memory ws)
