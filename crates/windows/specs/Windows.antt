-- The answer: the checks 1 and 2, then the list, then the first page that faults, then the first two windows that share a physical page.
use Rattle.std.specs.Prelude.{if◌then◌else◌, ℕ, List, length, Option, Some, None, nat_lt, Result, Ok, Err}
use Rattle.word.specs.Ram.{word_at}
use Rattle.sysreg.specs.declared.regs.Control.{Control}
use Rattle.cpu.specs.Check.{passes}
use Rattle.cpu.specs.declared.check.Check.TheVariants as Check
use Rattle.windows.specs.Window.{first_in}
use Rattle.windows.specs.List.{list_of}
use Rattle.windows.specs.Pages.{frames_at, faults_at}
use Rattle.windows.specs.Pairs.{first_meeting}
use Rattle.windows.specs.declared.{list.Window.Window, list.Malformed.Malformed, pages.PageFault.PageFault, Pair.Pair, WindowsError.WindowsError}
use Rattle.windows.specs.declared.WindowsError.TheVariants as Error

abbrev pub Found : Type 0
Found = Result (Option Pair) WindowsError

-- a page that faults is told, whatever pages are shared
abbrev pub unless_fault : Option PageFault → Option Pair → Found
unless_fault (Some e) pair = Err (Error.Page e)
unless_fault None pair = Ok pair

-- of the windows of a right list
unfoldable pub found_in : Control → ℕ → (ℕ → Option ℕ) → List Window → Found
found_in control level memory ws =
    unless_fault (first_in (faults_at control level memory ws)) (first_meeting (length ws) (frames_at control level memory ws))

abbrev pub found_of : Control → ℕ → (ℕ → Option ℕ) → Result (List Window) Malformed → Found
found_of control level memory (Err why) = Err (Error.List why)
found_of control level memory (Ok ws) = found_in control level memory ws

-- by the registers that translate, the level, RAM and the bytes of the list, and by nothing else
unfoldable pub windows_of : Control → ℕ → ℕ → List ℕ → List ℕ → Found
windows_of control level base ram bytes =
    if nat_lt 3 level then Err (Error.Check Check.Level)
    else if passes base (length ram) then Err (Error.Check Check.Window)
    else found_of control level (word_at base ram 8) (list_of bytes)
