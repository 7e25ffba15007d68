-- Where every answer comes from, with no premise: from the address alone with stage 1 off, from the walk of now, which
-- failed, or from a walk that the page had, now or at a step of the history, which no invalidation since covers.
use Rattle.std.specs.Prelude.{◌≡◌, true, false, List, [], ◌∷◌, ◌++◌, ◌⊎◌, ℕ, Ok, Err}
use Rattle.fault.specs.First.{first}
use Rattle.walk.specs.declared.level.Leaf.{Leaf}
use Rattle.tlb.specs.Access.{flat_answer}
use Rattle.tlb.specs.Live.{Each}
use Rattle.tlb.specs.Asks.{Ask, kind_of, address_of}
use Rattle.tlb.specs.declared.Inval.{Inval}
use Rattle.tlb.specs.Answers.{Answer}
use Rattle.tlb.specs.Translate.{leaf_answer}
use Rattle.history.specs.World.{World, covers, Plain, page_walk, regime_now, on_now, untag_now, page_now, need_now}
use Rattle.history.specs.History.{Step, Event, steps, plain_run, drops_run}

module _ (w : World) (c₀ : Plain w) where
  -- The registers R and the RAM m' are those of now, or those at the start of a step of the history; vs are the
  -- invalidations since.
  pub data StateIn (past : List (Event w)) (m : w.Ram) (R : w.Regs) (m' : w.Ram) : List Inval → Type 0 where
    now : R ≡ (plain_run w c₀ past).regs → m' ≡ m → StateIn past m R m' []
    then : (before : List (Event w)) (s : Step w) (later : List (Event w)) → past ≡ before ++ steps m' s ∷ later
        → R ≡ (plain_run w c₀ before).regs → StateIn past m R m' (drops_run w (plain_run w c₀ before) (steps m' s ∷ later))

  module _ (past : List (Event w)) (m : w.Ram) where
    -- what a translation reads after the history
    abbrev pub here : Plain w
    here = plain_run w c₀ past

    -- The answer x to a translation a, made after the history on the RAM m.
    pub data From (a : Ask) (x : Answer) : Type 0 where
      flat : on_now w here ≡ false → x ≡ flat_answer (untag_now w here (address_of a)) → From a x
      fails : (code : ℕ) → on_now w here ≡ true
          → w.walk here.regs m (regime_now w here) (untag_now w here (address_of a)) ≡ Err code
          → x ≡ Err (first code) → From a x
      walks : (R : w.Regs) (m' : w.Ram) (vs : List Inval) → StateIn past m R m' vs → (ℓ : Leaf)
          → w.on R (regime_now w here) ≡ true
          → page_walk w R m' (regime_now w here) (page_now w here (address_of a)) ≡ Ok ℓ
          → (ℓ.global ≡ true) ⊎ (w.asid R ≡ w.asid here.regs)
          → Each (λ v. covers v (page_now w here (address_of a)) ℓ (w.asid R) ≡ false) vs
          → x ≡ leaf_answer ℓ (need_now w here (kind_of a)) (address_of a) → From a x
