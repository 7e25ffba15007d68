-- A page is settled where the premise holds at one step after the other.
use Rattle.std.specs.Prelude.{List, [], ◌∷◌, ◌++◌, ℕ}
use Rattle.std.proofs.Common.{subst}
use Rattle.sysreg.specs.declared.regs.Regime.{Regime}
use Rattle.history.specs.World.{World, Plain}
use Rattle.history.specs.History.{Step, Event, steps, receives, after_event, plain_run, drops_run, Settled}
use Rattle.history.specs.StepByStep.{HoldsAt, HoldsFrom}

module _ (w : World) (R : w.Regs) (m : w.Ram) (r : Regime) (p : ℕ) where
  holds_later : (before : List (Event w)) (m' : w.Ram) (s : Step w) (later : List (Event w)) (c : Plain w)
      → HoldsFrom w R m r p c (before ++ steps m' s ∷ later) → HoldsAt w R m r p (plain_run w c before) m' (drops_run w (plain_run w c before) (steps m' s ∷ later))
  holds_later [] m' s later c h = h.0
  holds_later (steps n t ∷ l) m' s later c h = holds_later l m' s later (after_event w (steps n t) c) h.1
  holds_later (receives v ∷ l) m' s later c h = holds_later l m' s later c h

pub steps-settled : (w : World) (c₀ : Plain w) (past : List (Event w)) (m : w.Ram) (r : Regime) (p : ℕ)
    → HoldsFrom w (plain_run w c₀ past).regs m r p c₀ past → Settled w c₀ past m r p
steps-settled w c₀ past m r p h =
    record {
      holds = λ before m' s later split.
          holds_later w (plain_run w c₀ past).regs m r p before m' s later c₀
          (subst (λ (l : List (Event w)). HoldsFrom w (plain_run w c₀ past).regs m r p c₀ l) split h);
    }
