-- Cores of which words hold all: nothing is lost where one is saved.
use Rattle.std.specs.Prelude.{◌≡◌, List, ℕ}
use Rattle.cpu.specs.declared.Core.{Core}
use Rattle.cpu.specs.Step.{step_of}
use Rattle.cpu.specs.declared.call.Call.{Call}
use Rattle.history.specs.Calls.{Lent}
use Rattle.history.specs.Instance.{real}
use Rattle.transparency.specs.Machine.{machine}
use Rattle.saved.specs.CoreOf.{core_of}
use Rattle.saved.specs.Fits.{Fits}
use Rattle.saved.specs.WordsOf.{words_of, held}
use Rattle.core_transparency.specs.OnCore.{Made}

-- every call leaves such a core such a one
abbrev pub call_keeps_whole : Type 0
call_keeps_whole = (c : Core) (base : ℕ) (ram : List ℕ) (x : Call) → held c ≡ c → held (step_of c base ram x).core ≡ (step_of c base ram x).core

-- after every list of calls the core is one
abbrev pub made_is_whole : Type 0
made_is_whole = (c : Core) (list : List (Lent real machine)) → Made c list → held c ≡ c

-- so that its words are the core
abbrev pub made_is_saved : Type 0
made_is_saved = (c : Core) (list : List (Lent real machine)) → Made c list → Fits c → core_of (words_of c) ≡ c
