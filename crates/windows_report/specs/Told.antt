-- What is told of a list: what the library finds, with the pages that two windows share and the address that faults; or why there is no report.
use Rattle.std.specs.Prelude.{◌≡◌, ℕ, Bool, true, false, List, Option, Some, None, Result, Ok, Err}
use Rattle.cpu.specs.declared.Core.{Core}
use Rattle.windows.specs.Window.{window}
use Rattle.windows.specs.declared.{list.Window.Window, pages.PageFault.PageFault, Pair.Pair, WindowsError.WindowsError}
use Rattle.windows.specs.declared.WindowsError.TheVariants as Error
use Rattle.windows_report.specs.Pages.{address_of, answers_of}
use Rattle.windows_report.specs.Refusal.{refusal_of}
use Rattle.windows_report.specs.Shared.{shared_from}
use Rattle.windows_report.specs.declared.report.{Found.Found, Refused.Refused}
use Rattle.windows_report.specs.declared.report.Found.TheVariants as Found
use Rattle.windows_report.specs.declared.report.Refused.TheVariants as Refused

-- of a core, its memory and the windows of a list: what is found, told
abbrev pub IsFound : Core → (ℕ → Option ℕ) → List Window → Result (Option Pair) PageFault → Found → Type 0
IsFound c memory ws (Ok None) found = found ≡ Found.Apart
IsFound c memory ws (Ok (Some p)) (Found.Shared first second pages) =
    (first ≡ p.first) × (second ≡ p.second)
    × (pages.items ≡ shared_from 0 (answers_of c memory (window ws p.first)) (answers_of c memory (window ws p.second)))
IsFound c memory ws (Ok (Some p)) found = ⊥
IsFound c memory ws (Err e) found =
    found ≡ Found.Fault e.window e.page (record { 0 = address_of (window ws e.window) e.page }) e.fault

-- of the library's answer: the same two windows, the same page and status, or none
abbrev pub IsTold : Result (Option Pair) WindowsError → Found → Type 0
IsTold (Ok None) Found.Apart = Unit {0}
IsTold (Ok (Some p)) (Found.Shared first second pages) = (first ≡ p.first) × (second ≡ p.second)
IsTold (Err (Error.Page e)) (Found.Fault number page va fault) = (number ≡ e.window) × (page ≡ e.page) × (fault ≡ e.fault)
IsTold answer found = ⊥

-- the check that is missed, and a list that is wrong by its own numbers; memory may run out whatever the library finds
abbrev pub IsRefused : List ℕ → Result (Option Pair) WindowsError → Refused → Type 0
IsRefused list (Err (Error.Check missed)) (Refused.Check check) = check ≡ missed
IsRefused list (Err (Error.List why)) (Refused.List refusal) = refusal ≡ refusal_of why list
IsRefused list answer (Refused.Memory error) = Unit {0}
IsRefused list answer why = ⊥

abbrev pub is_apart : Found → Bool
is_apart Found.Apart = true
is_apart (Found.Shared first second pages) = false
is_apart (Found.Fault number page va fault) = false
