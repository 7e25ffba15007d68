-- The pages of windows: each by its own address, for a privileged write, with nothing cached.
use Rattle.std.specs.Prelude.{ℕ, ◌+◌, ◌*◌, ◌/◌, false, List, length, Option, Some, None, Ok, Err, filter_map, flat_map}
use Rattle.sysreg.specs.Regs.{regime_of}
use Rattle.sysreg.specs.declared.regs.{Regime.Regime, Control.Control}
use Rattle.walk.specs.Regime.{bank_of}
use Rattle.walk.specs.declared.regime.Bank.{Bank}
use Rattle.tlb.specs.Answers.{Answer}
use Rattle.tlb.specs.Translate.{fresh_answer}
use Rattle.tlb.specs.declared.access.Kind.TheVariants.{Write}
use Rattle.windows.specs.Window.{window, below}
use Rattle.windows.specs.declared.{list.Window.Window, pages.PageFault.PageFault}

-- a page's fault, and its physical page, of which it has one or the other
abbrev pub fault_in : ℕ → ℕ → Answer → Option PageFault
fault_in i j (Ok pa) = None
fault_in i j (Err f) = Some (record { window = i; page = j; fault = f })

abbrev pub frame_in : Answer → Option ℕ
frame_in (Ok pa) = Some (pa / 4096)
frame_in (Err f) = None

module _ (s : Bank) (r : Regime) (memory : ℕ → Option ℕ) where
  -- page j of a window
  abbrev pub page_answer : Window → ℕ → Answer
  page_answer w j = fresh_answer s r false Write (w.start + 4096 * j) memory

  -- the physical pages of a window, and the faults of its pages, both in order
  abbrev pub frames_in : Window → List ℕ
  frames_in w = filter_map (λ j. frame_in (page_answer w j)) (below w.pages)

  abbrev pub faults_in : ℕ → Window → List PageFault
  faults_in i w = filter_map (λ j. fault_in i j (page_answer w j)) (below w.pages)

  -- those of the windows of a list, by window and then by page
  abbrev pub frames_of : List Window → ℕ → List ℕ
  frames_of ws i = frames_in (window ws i)

  abbrev pub faults_of : List Window → List PageFault
  faults_of ws = flat_map (λ i. faults_in i (window ws i)) (below (length ws))

-- under the registers kept, in the regime of an exception level
abbrev pub frames_at : Control → ℕ → (ℕ → Option ℕ) → List Window → ℕ → List ℕ
frames_at control level memory ws = frames_of (bank_of control (regime_of level)) (regime_of level) memory ws

abbrev pub faults_at : Control → ℕ → (ℕ → Option ℕ) → List Window → List PageFault
faults_at control level memory ws = faults_of (bank_of control (regime_of level)) (regime_of level) memory ws
