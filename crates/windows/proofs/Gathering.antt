-- The windows of a list one by one, on plain values.
use Rattle.std.specs.Prelude.{◌≡◌, ℕ, ◌+◌, ◌<◌, ◌≤◌, List, length, take, Option, Some, None, slice_set}
use Rattle.std.proofs.Common.{◌∙◌, length-set, arith, below_more, get_or-set_same, get_or-set_other, get_or-take}
use Rattle.std.proofs.lemmas.List.{length-take-le}
use Rattle.sysreg.specs.declared.regs.Regime.{Regime}
use Rattle.walk.specs.declared.regime.Bank.{Bank}
use Rattle.windows.specs.Window.{window, none, first_in}
use Rattle.windows.specs.Pages.{frames_in, faults_in, frames_of, faults_of}
use Rattle.windows.specs.Rows.{row_of, EachRow}
use Rattle.windows.specs.declared.{list.Window.Window, pages.PageFault.PageFault}
use Rattle.windows.proofs.First.{least, least-zero, least-none, least-some, least-same, first-flat_map}

-- the first windows of an array
pub window-listed : (ws : List Window) (count i : ℕ) → i < count → window (take count ws) i ≡ window ws i
window-listed ws count i h = get_or-take count ws i none h

pub length-listed : (ws : List Window) (count : ℕ) → count ≤ length ws → length (take count ws) ≡ count
length-listed ws count h = length-take-le count ws h

module _ (s : Bank) (r : Regime) (memory : ℕ → Option ℕ) (ws : List Window) where
  abbrev pub window_fault : ℕ → Option PageFault
  window_fault i = first_in (faults_in s r memory i (window ws i))

  -- no page of a window below i faults, and their rows begin with their physical pages
  pub record Gathered (i : ℕ) (rows : List (List ℕ)) : Type 0 where
    pub no_fault : least window_fault i ≡ None
    pub pages : (k : ℕ) → k < i → row_of ws rows k ≡ frames_in s r memory (window ws k)
    pub long : length rows ≡ 64

  pub gathered-none : (rows : List (List ℕ)) → length rows ≡ 64 → Gathered 0 rows
  gathered-none rows long = record { no_fault = least-zero window_fault; pages = λ k h. absurd (omega arith); long = long }

  pub gathered-more : (i : ℕ) (rows : List (List ℕ)) (row : List ℕ) → Gathered i rows → i < 64
      → first_in (faults_in s r memory i (window ws i)) ≡ None → take (window ws i).pages row ≡ frames_in s r memory (window ws i)
      → Gathered (i + 1) (slice_set rows i row)
  gathered-more i rows row h l clear pages = grind (arith, least-none, below_more, length-set, get_or-set_other, get_or-set_same)

  module _ (count : ℕ) (few : count ≤ length ws) where
    faults-listed : first_in (faults_of s r memory (take count ws)) ≡ least window_fault count
    faults-listed = grind (arith, first-flat_map, length-listed, least-same, window-listed)

    pub gathered-fault : (i : ℕ) (rows : List (List ℕ)) (e : PageFault) → Gathered i rows → i < count
        → first_in (faults_in s r memory i (window ws i)) ≡ Some e → first_in (faults_of s r memory (take count ws)) ≡ Some e
    gathered-fault i rows e h l is = faults-listed ∙ least-some window_fault i count e h.no_fault is l

    pub gathered-clear : (i : ℕ) (rows : List (List ℕ)) → Gathered i rows → i ≡ count → first_in (faults_of s r memory (take count ws)) ≡ None
    gathered-clear i rows h e = faults-listed ∙ rw e at h.no_fault

    pub gathered-rows : (i : ℕ) (rows : List (List ℕ)) → Gathered i rows → i ≡ count → EachRow (take count ws) rows (frames_of s r memory (take count ws))
    gathered-rows i rows h e k l = grind (arith, length-listed, window-listed)

pub ruleset gathering = (gathered-none, gathered-more, gathered-fault, gathered-clear, gathered-rows)
