-- The answer, step by step.
use Rattle.std.specs.Prelude.{if◌then◌else◌, ◌≡◌, refl, ℕ, Bool, List, length, Option, Some, None, nat_lt, Result, Ok, Err}
use Rattle.std.proofs.Common.{arith}
use Rattle.word.specs.Ram.{word_at}
use Rattle.sysreg.specs.declared.regs.Control.{Control}
use Rattle.cpu.specs.Check.{passes, ram_rows, first_of, number_of, number_missed}
use Rattle.cpu.specs.declared.check.Check.{Check}
use Rattle.windows.specs.Window.{first_in}
use Rattle.windows.specs.List.{list_of}
use Rattle.windows.specs.Rows.{row_of, EachRow}
use Rattle.windows.specs.Pages.{frames_at, faults_at}
use Rattle.windows.specs.Pairs.{first_meeting}
use Rattle.windows.specs.Listed.{listed}
use Rattle.windows.specs.Windows.{Found, found_in, found_of, windows_of}
use Rattle.windows.specs.declared.{list.WindowList.WindowList, list.Malformed.Malformed, pages.PageFault.PageFault, Pair.Pair}
use Rattle.windows.specs.declared.WindowsError.TheVariants as Error
use Rattle.windows.proofs.Gathering.{window-listed, length-listed}
use Rattle.windows.proofs.Pairing.{first-same}

-- a check that is missed is the first of the two whose condition holds
missed : (level window : Bool) (check : Check) (y : Found) → number_of check ≡ (if level then 1 else if window then 2 else 0)
    → Err (Error.Check check) ≡ (if level then Err (Error.Check Check.Level) else if window then Err (Error.Check Check.Window) else y)
missed level window check y e = grind arith

passed : (level window : Bool) (y : Found) → ◌≡◌ {A = ℕ} 0 (if level then 1 else if window then 2 else 0)
    → y ≡ (if level then Err (Error.Check Check.Level) else if window then Err (Error.Check Check.Window) else y)
passed level window y e = grind arith

module _ (control : Control) (level base : ℕ) (ram bytes : List ℕ) where
  abbrev memory : ℕ → Option ℕ
  memory = word_at base ram 8

  pub check-missed : {A : Type 0} (r : Result A Check) (check : Check) → number_missed r ≡ first_of (ram_rows level base (length ram)) → r ≡ Err check
      → Err (Error.Check check) ≡ windows_of control level base ram bytes
  unfolding windows_of
  check-missed r check e is = grind arith

  -- neither check is missed
  pub check-passed : {A : Type 0} (r : Result A Check) (x : A) → number_missed r ≡ first_of (ram_rows level base (length ram)) → r ≡ Ok x
      → found_of control level memory (list_of bytes) ≡ windows_of control level base ram bytes
  unfolding windows_of
  check-passed r x e is = passed (nat_lt 3 level) (passes base (length ram)) (found_of control level memory (list_of bytes)) (rw is at e)

  pub list-wrong : (why : Malformed) → list_of bytes ≡ Err why → Err (Error.List why) ≡ found_of control level memory (list_of bytes)
  list-wrong why e = rw e refl

  module _ (l : WindowList) (is : list_of bytes ≡ Ok (listed l)) where
    pub page-faults : (e : PageFault) → first_in (faults_at control level memory (listed l)) ≡ Some e
        → Err (Error.Page e) ≡ found_of control level memory (list_of bytes)
    unfolding found_in
    page-faults e h = rw (is, h) refl

    pub pages-clear : (rows : List (List ℕ)) (x : Option Pair) → length l.windows ≡ 64 → first_in (faults_at control level memory (listed l)) ≡ None
        → EachRow (listed l) rows (frames_at control level memory (listed l)) → x ≡ first_meeting l.count (row_of l.windows rows)
        → Ok x ≡ found_of control level memory (list_of bytes)
    unfolding found_in
    pages-clear rows x long clear each e = grind (arith, first-same, length-listed, window-listed)
