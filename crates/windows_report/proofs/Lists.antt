-- The windows of a wrong list are never found.
use Rattle.std.proofs.Common.{◌≡◌, ℕ, Bool, true, false, List, Ok, Err, length}
use Rattle.std.specs.Prelude.{if◌then◌else◌, nat_lt}
use Rattle.sysreg.specs.declared.regs.Control.{Control}
use Rattle.cpu.specs.Check.{passes}
use Rattle.cpu.specs.declared.check.Check.TheVariants as Check
use Rattle.windows.specs.List.{list_of}
use Rattle.windows.specs.Windows.{Found, windows_of}
use Rattle.windows.specs.declared.list.Malformed.{Malformed}
use Rattle.windows.specs.declared.WindowsError.TheVariants as Error

-- neither a pair, nor none, nor a page that faults
abbrev pub Refuses : Found → Type 0
Refuses (Ok pair) = ⊥
Refuses (Err (Error.Page page)) = ⊥
Refuses (Err (Error.Check check)) = Unit {0}
Refuses (Err (Error.List why)) = Unit {0}

pub wrong_list : (c : Control) (level base : ℕ) (ram bytes : List ℕ) (why : Malformed) → list_of bytes ≡ Err why
    → Refuses (windows_of c level base ram bytes)
unfolding windows_of
wrong_list c level base ram bytes why e = rw e (go (nat_lt 3 level) (passes base (length ram)))
  where
    go : (a b : Bool)
        → Refuses (if a then Err (Error.Check Check.Level) else if b then Err (Error.Check Check.Window) else Err (Error.List why))
    go true b = tt
    go false true = tt
    go false false = tt
