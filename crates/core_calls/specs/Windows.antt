-- What windows give: a number and three words; and what the core without a cache would find.
use Rattle.std.specs.Prelude.{if◌then◌else◌, ◌≡◌, ℕ, nat_lt, zero, suc, ◌+◌, ◌*◌, false, List, [], ◌∷◌, Some, None, Ok, Err}
use Rattle.walk.specs.Regime.{bank_of}
use Rattle.sysreg.specs.Regs.{regime_of}
use Rattle.tlb.specs.declared.access.Kind.TheVariants.{Write}
use Rattle.cpu.specs.Bare.{Bare, with_privilege}
use Rattle.cpu.specs.declared.Core.{Core}
use Rattle.cpu.specs.declared.call.Call.TheVariants.{Windows}
use Rattle.cpu.specs.Step.{step_of}
use Rattle.windows.specs.Error.{number_of_error}
use Rattle.windows.specs.Pages.{page_answer}
use Rattle.windows.specs.Windows.{Found, windows_of}
use Rattle.windows.specs.declared.list.Window.{Window}
use Rattle.windows.specs.declared.WindowsError.TheVariants as Error
use Rattle.history.specs.World.{uncached}
use Rattle.history.specs.Calls.{Lent}
use Rattle.history.specs.Instance.{Ram, memory_of, real}
use Rattle.call_words.specs.Replies.{code_by}
use Rattle.transparency.specs.Events.{plain_in}
use Rattle.transparency.specs.Machine.{machine}
use Rattle.transparency.specs.Beside.{core_after, bare_after}

-- 0, or the number of the check, of the list, of the page that faults
abbrev pub found_number : Found → ℕ
found_number (Ok pair) = 0
found_number (Err e) = number_of_error e

-- 1 and the numbers of two windows, or zeros where no two share a page; window, page and status of the page that faults; else the words stay
abbrev pub found_words : Found → List ℕ → List ℕ
found_words (Ok (Some p)) old = 1 ∷ p.first ∷ p.second ∷ []
found_words (Ok None) old = 0 ∷ 0 ∷ 0 ∷ []
found_words (Err (Error.Page e)) old = e.window ∷ e.page ∷ e.fault.fsc ∷ []
found_words (Err (Error.List why)) old = old
found_words (Err (Error.Check check)) old = old

-- of a core, and of the core without a cache: of a list's bytes
abbrev pub windows_in : Core → ℕ → List ℕ → List ℕ → Found
windows_in c base ram bytes = windows_of c.control c.privilege.level base ram bytes

abbrev pub bare_windows : Bare → Ram → List ℕ → Found
bare_windows b m bytes = windows_of b.control b.privilege.level m.base m.bytes bytes

-- after every list of calls both find the same
abbrev pub windows_after : Type 0
windows_after =
    (list : List (Lent real machine)) (m : Ram) (bytes : List ℕ)
    → windows_in (core_after list) m.base m.bytes bytes ≡ bare_windows (bare_after list) m bytes

-- the level that has its regime's own rights: EL1 in the place of EL0
abbrev pub privileged : ℕ → ℕ
privileged zero = 1
privileged (suc level) = suc level

-- each page is answered as the core without a cache, unmarked and at such a level, translates for a store there
abbrev pub pages_as_stores : Type 0
pages_as_stores =
    (b : Bare) (m : Ram) (w : Window) (j : ℕ)
    → page_answer (bank_of b.control (regime_of b.privilege.level)) (regime_of b.privilege.level) (memory_of m) w j
    ≡ uncached real (plain_in (with_privilege b (privileged b.privilege.level) false)) m Write (w.start + 4096 * j)

-- In a list of calls they are a step, done or with the number of the check: 9 and 10 are no check's.
abbrev pub one_step : Type 0
one_step =
    (c : Core) (base : ℕ) (ram bytes : List ℕ)
    → code_by (step_of c base ram Windows).reply ≡ (let n = found_number (windows_in c base ram bytes) in if nat_lt n 9 then n else 0)
