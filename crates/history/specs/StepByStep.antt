-- The premise step by step: what is to be shown of a list that is given.
use Rattle.std.specs.Prelude.{◌≡◌, true, false, List, [], ◌∷◌, ◌⊎◌, ℕ, Ok}
use Rattle.walk.specs.declared.{level.Leaf.Leaf}
use Rattle.sysreg.specs.declared.regs.Regime.{Regime}
use Rattle.tlb.specs.Live.{Each}
use Rattle.tlb.specs.declared.Inval.{Inval}
use Rattle.history.specs.World.{World, LeavesEqual, covers, Plain, page_walk}
use Rattle.history.specs.History.{Event, steps, receives, after_event, drops_run}

module _ (w : World) (R : w.Regs) (m : w.Ram) (r : Regime) (p : ℕ) where
  -- at a step that begins on c and m', with the invalidations vs from then on; now the registers are R and RAM is m
  abbrev pub HoldsAt : Plain w → w.Ram → List Inval → Type 0
  HoldsAt c m' vs =
      (ℓ : Leaf) → w.on c.regs r ≡ true → page_walk w c.regs m' r p ≡ Ok ℓ
      → (ℓ.global ≡ true) ⊎ (w.asid c.regs ≡ w.asid R)
      → Each (λ v. covers v p ℓ (w.asid c.regs) ≡ false) vs
      → (ℓ' : Leaf) × (page_walk w R m r p ≡ Ok ℓ') × LeavesEqual ℓ ℓ'

  abbrev pub HoldsFrom : Plain w → List (Event w) → Type 0
  HoldsFrom c [] = Unit {0}
  HoldsFrom c (steps m' s ∷ l) =
      HoldsAt c m' (drops_run w c (steps m' s ∷ l)) × HoldsFrom (after_event w (steps m' s) c) l
  HoldsFrom c (receives v ∷ l) = HoldsFrom c l
