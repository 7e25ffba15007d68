-- A list that is written from right windows is answered as these.
use Rattle.std.specs.Prelude.{◌≡◌, ℕ, ◌+◌, ◌^◌, ◌≤◌, List, length}
use Rattle.std.proofs.Common.{arith}
use Rattle.word.specs.Ram.{word_at}
use Rattle.sysreg.specs.declared.regs.Control.{Control}
use Rattle.windows.specs.Right.{RightWindows, bytes_of_windows}
use Rattle.windows.specs.Windows.{found_in, windows_of}
use Rattle.windows.specs.declared.list.Window.{Window}
use Rattle.windows.proofs.Encoding.{written-read}

pub answered : (control : Control) (level base : ℕ) (ram : List ℕ) (ws : List Window) → level ≤ 3 → base + length ram ≤ 2 ^ 64
    → RightWindows ws → windows_of control level base ram (bytes_of_windows ws) ≡ found_in control level (word_at base ram 8) ws
unfolding windows_of
answered control level base ram ws low ends right = grind (arith, written-read)
