-- The claim's premise is that of the theory of histories (history/specs/History.antt): the two say it in other words, and
-- of the same pages.
use Rattle.std.specs.Prelude.{◌≡◌, List, [], ◌∷◌, ◌++◌, ℕ}
use Rattle.sysreg.specs.declared.regs.Regime.{Regime}
use Rattle.cpu.specs.Bare.{fresh_bare}
use Rattle.cpu.specs.Core.{fresh_core}
use Rattle.history.specs.Calls.{Fed, events_run}
use Rattle.history.specs.History as History
use Rattle.history.specs.Instance.{Ram, real}
use Rattle.transparency.specs.Events.{plain_in}
use Rattle.transparency.specs.Steps.{Step, steps_run}
use Rattle.transparency.specs.Claim.{Settled}
use Rattle.transparency.specs.Machine.{machine}

-- A step has no later RAM: a zeroing is taken apart.
abbrev pub feed : Step → Fed real machine
feed s = record { lent = record { ram = s.ram; call = s.call }; later = [] }

abbrev pub feeds : List Step → List (Fed real machine)
feeds [] = []
feeds (s ∷ l) = feed s ∷ feeds l

abbrev pub SettledInTheory : List Step → Ram → Regime → ℕ → Type 0
SettledInTheory past m r p =
    History.Settled real (plain_in fresh_bare) (events_run real machine fresh_bare (feeds past)) m r p

-- after steps of any list
abbrev pub same_premise : Type 0
same_premise =
    (list past later : List Step) → steps_run fresh_core list ≡ past ++ later → (m : Ram) (r : Regime) (p : ℕ)
    → (Settled past m r p → SettledInTheory past m r p) × (SettledInTheory past m r p → Settled past m r p)
