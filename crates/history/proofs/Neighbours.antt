-- A page that the history leaves to the ASID of now is settled.
use Rattle.std.proofs.Common.{arith, ◌∙◌, true≢false, inl, inr, eqb-true}
use Rattle.std.specs.Prelude.{◌≡◌, refl, Bool, true, false, ◌⊎◌, ℕ, ◌==◌, Ok}
use Rattle.std.proofs.Math.Path.{sym}
use mathlib.Core.List.{List, [], ◌∷◌, ◌++◌}
use Rattle.std.proofs.lemmas.Bool.{eqb-false}
use Rattle.walk.specs.declared.{level.Leaf.Leaf}
use Rattle.sysreg.specs.declared.regs.Regime.{Regime}
use Rattle.tlb.specs.Live.{Each, done}
use Rattle.tlb.specs.declared.Inval.{Inval}
use Rattle.history.proofs.Lists.{each_append, each_left, each_right}
use Rattle.history.specs.World.{World, LeavesEqual, covers, Plain, page_walk}
use Rattle.history.specs.History.{Step, Event, steps, after_event, plain_run, drops_event, drops_run, Settled}
use Rattle.history.specs.Neighbours.{drops_under, Own}

module _ (w : World) where
  -- what holds of all invalidations holds of those made under an ASID
  under : {P : Inval → Type 0} (a : ℕ) (c : Plain w) (l : List (Event w)) → Each P (drops_run w c l) → Each P (drops_under w a c l)
  under a c [] ps = done
  under {P} a c (x ∷ l) ps =
      grind (arith, (under a (after_event w x c) l (each_right (drops_event w x c) (drops_run w (after_event w x c) l) ps)), each_append, each_left)

  pub own-settled : (c₀ : Plain w) (past : List (Event w)) (m : w.Ram) (r : Regime) (p : ℕ) → Own w c₀ past m r p → Settled w c₀ past m r p
  own-settled c₀ past m r p own =
      record {
        holds = λ before m' s later split ℓ o x today us.
            go before m' s later split ℓ o x today us (w.asid (plain_run w c₀ before).regs == A) refl;
      }
    where
      A : ℕ
      A = w.asid (plain_run w c₀ past).regs

      go : (before : List (Event w)) (m' : w.Ram) (s : Step w) (later : List (Event w)) → past ≡ before ++ steps m' s ∷ later → (ℓ : Leaf)
          → w.on (plain_run w c₀ before).regs r ≡ true → page_walk w (plain_run w c₀ before).regs m' r p ≡ Ok ℓ
          → (ℓ.global ≡ true) ⊎ (w.asid (plain_run w c₀ before).regs ≡ A)
          → Each (λ v. covers v p ℓ (w.asid (plain_run w c₀ before).regs) ≡ false) (drops_run w (plain_run w c₀ before) (steps m' s ∷ later))
          → (b : Bool) → (w.asid (plain_run w c₀ before).regs == A) ≡ b
          → (ℓ' : Leaf) × (page_walk w (plain_run w c₀ past).regs m r p ≡ Ok ℓ') × LeavesEqual ℓ ℓ'
      go before m' s later split ℓ o x today us true b =
          own.there before m' s later split ℓ o x (eqb-true _ _ b) (under A (plain_run w c₀ before) (steps m' s ∷ later) us)
      go before m' s later split ℓ o x (inr y) us false b = absurd (eqb-false _ _ b y)
      go before m' s later split ℓ o x (inl y) us false b =
          absurd (true≢false (sym y ∙ own.elsewhere before m' s later split ℓ o x (λ e. eqb-false _ _ b e)))
