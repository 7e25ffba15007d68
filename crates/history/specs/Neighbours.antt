-- What runs under other ASIDs does not bend a page's translation: two histories that leave the page to one ASID give
-- one answer.
use Rattle.std.specs.Prelude.{if◌then◌else◌, ◌≡◌, true, false, ℕ, ◌==◌, Ok}
use mathlib.Core.List.{List, [], ◌∷◌, ◌++◌}
use Rattle.walk.specs.declared.{level.Leaf.Leaf}
use Rattle.sysreg.specs.declared.regs.Regime.{Regime}
use Rattle.tlb.specs.Live.{Each}
use Rattle.tlb.specs.Asks.{Ask, address_of}
use Rattle.tlb.specs.declared.Inval.{Inval}
use Rattle.history.specs.World.{World, LeavesEqual, covers, Plain, page_walk, regime_now, page_now}
use Rattle.history.specs.History.{Step, Event, steps, after_event, plain_run, drops_event}

module _ (w : World) where
  -- the invalidations of a history that are made under the ASID a
  abbrev pub drops_under : ℕ → Plain w → List (Event w) → List Inval
  drops_under a c [] = []
  drops_under a c (x ∷ xs) = (if w.asid c.regs == a then drops_event w x c else []) ++ drops_under a (after_event w x c) xs

  -- The history leaves the page to the ASID of now: elsewhere it had no successful global walk, and each successful
  -- walk that it had there, covered by no invalidation made there, equals its walk now.
  pub record Own (c₀ : Plain w) (past : List (Event w)) (m : w.Ram) (r : Regime) (p : ℕ) : Type 0 where
    pub elsewhere : (before : List (Event w)) (m' : w.Ram) (s : Step w) (later : List (Event w)) →
        past ≡ before ++ steps m' s ∷ later →
        (ℓ : Leaf) →
        w.on (plain_run w c₀ before).regs r ≡ true →
        page_walk w (plain_run w c₀ before).regs m' r p ≡ Ok ℓ →
        (w.asid (plain_run w c₀ before).regs ≡ w.asid (plain_run w c₀ past).regs → ⊥) →
        ℓ.global ≡ false
    pub there : (before : List (Event w)) (m' : w.Ram) (s : Step w) (later : List (Event w)) →
        past ≡ before ++ steps m' s ∷ later →
        (ℓ : Leaf) →
        w.on (plain_run w c₀ before).regs r ≡ true →
        page_walk w (plain_run w c₀ before).regs m' r p ≡ Ok ℓ →
        w.asid (plain_run w c₀ before).regs ≡ w.asid (plain_run w c₀ past).regs →
        Each (λ v. covers v p ℓ (w.asid (plain_run w c₀ before).regs) ≡ false)
        (drops_under (w.asid (plain_run w c₀ past).regs) (plain_run w c₀ before) (steps m' s ∷ later)) →
        (ℓ' : Leaf) × (page_walk w (plain_run w c₀ past).regs m r p ≡ Ok ℓ') × LeavesEqual ℓ ℓ'

  abbrev pub OwnFor : Plain w → List (Event w) → w.Ram → Ask → Type 0
  OwnFor c₀ past m a = Own c₀ past m (regime_now w (plain_run w c₀ past)) (page_now w (plain_run w c₀ past) (address_of a))
