-- What follows from faithfulness: the answers of one translation, of a step, of a whole list; and pages that need no
-- premise.
use Rattle.std.proofs.Common.{arith, ap, ap₂, ◌∙◌, true≢false}
use Rattle.std.specs.Prelude.{◌≡◌, ℕ, ◌≤◌, Ok, Err}
use Rattle.std.proofs.Math.Path.{refl, sym}
use Rattle.std.proofs.Math.Bool.{false}
use mathlib.Core.List.{List, [], ◌∷◌, ◌++◌, append-nil, append_assoc}
use Rattle.walk.specs.declared.{level.Leaf.Leaf}
use Rattle.sysreg.specs.declared.regs.Regime.{Regime}
use Rattle.tlb.specs.Live.{Each, more}
use Rattle.tlb.specs.Tlb.{fresh}
use Rattle.tlb.specs.Asks.{Ask, kind_of, address_of, Given, onward}
use Rattle.tlb.specs.declared.Tlb.{Tlb}
use Rattle.tlb.specs.Answers.{Answer}
use Rattle.history.proofs.Lists.{each_left, each_right, each-head, plain-append, tlb-append}
use Rattle.history.specs.World.{World, Laws, covers, Plain, uncached}
use Rattle.history.specs.History.{Effect, nothing, Step, Event, steps, receives, after, plain_run, drops, drops_run, answer_of, tlb_ask, answers}
use Rattle.history.specs.History.{tlb_run, Settled, SettledFor, FaithfulAnswer}
use Rattle.history.proofs.Theorem.{every_history_faithful}
use Rattle.history.specs.Invisible.{plain_answers, answers_run, plain_answers_run, Tidy, Invisible}

module _ (w : World) (laws : Laws w) where
  -- WITH STAGE 1 OFF NOW every page of the regime is settled: "a page has no walk to count"

  module _ (r : Regime) (p : ℕ) (ℓ : Leaf) (a : ℕ) where
    -- a walk that no flush covers means that the shape stayed, and so whether stage 1 is on
    effect-on : (e : Effect w) (c : Plain w) → Each (λ v. covers v p ℓ a ≡ false) (drops w e c) → w.on (after w e c).regs r ≡ w.on c.regs r
    unfolding covers
    effect-on e c h1 = grind arith

    kept_on : (l : List (Event w)) (c : Plain w) → Each (λ v. covers v p ℓ a ≡ false) (drops_run w c l)
        → w.on (plain_run w c l).regs r ≡ w.on c.regs r
    kept_on [] c us = refl
    kept_on (steps m s ∷ l) c us =
        kept_on l (after w s.effect c) (each_right (drops w s.effect c) _ us)
        ∙ effect-on s.effect c (each_left (drops w s.effect c) (drops_run w (after w s.effect c) l) us)
    kept_on (receives v ∷ l) c us = kept_on l c (each_right (v ∷ []) _ us)

  pub off-settled : (c₀ : Plain w) (past : List (Event w)) (m : w.Ram) (r : Regime) (p : ℕ) → w.on (plain_run w c₀ past).regs r ≡ false
      → Settled w c₀ past m r p
  off-settled c₀ past m r p off =
      record {
        holds = λ before m' s later split ℓ on_then walks today us.
            absurd
            (true≢false
            (sym on_then
            ∙ sym (kept_on r p ℓ _ (steps m' s ∷ later) (plain_run w c₀ before) us)
            ∙ ap (λ (c : Plain w). w.on c.regs r) (sym (plain-append w c₀ before (steps m' s ∷ later)))
            ∙ ap (λ (l : List (Event w)). w.on (plain_run w c₀ l).regs r) (sym split)
            ∙ off));
      }

  -- A FRESH CORE

  module _ (c₀ : Plain w) (zero-asid : w.asid c₀.regs ≡ 0) (low : c₀.privilege.level ≤ 3) where
    -- one translation after a history
    pub one-settled : (past : List (Event w)) (m : w.Ram) (a : Ask) → SettledFor w c₀ past m a
        → answer_of w (plain_run w c₀ past) m a (tlb_run w c₀ past fresh) ≡ uncached w (plain_run w c₀ past) m (kind_of a) (address_of a)
    one-settled past m a st = each-head (every_history_faithful w laws c₀ zero-asid low past m (record { asks = a ∷ []; effect = nothing })) st

    -- where all pages of a step are settled, all its answers are those of the core without a cache
    same-answers : (past : List (Event w)) (m : w.Ram) (l : List Ask) (t : Tlb) → Each (FaithfulAnswer w c₀ past m) (answers w (plain_run w c₀ past) m l t)
        → Each (SettledFor w c₀ past m) l → answers w (plain_run w c₀ past) m l t ≡ plain_answers w (plain_run w c₀ past) m l
    same-answers past m [] t fs ss = refl
    same-answers past m (a ∷ l) t (more f fs) (more s ss) =
        go (answer_of w c m a t) (f s) fs (λ gs. same-answers past m l (tlb_ask w c m a t) gs ss)
      where
        c : Plain w
        c = plain_run w c₀ past

        rest : List Given
        rest = answers w c m l (tlb_ask w c m a t)

        u : Answer
        u = uncached w c m (kind_of a) (address_of a)

        go : (x : Answer) → x ≡ u → Each (FaithfulAnswer w c₀ past m) (onward x rest [])
            → (Each (FaithfulAnswer w c₀ past m) rest → rest ≡ plain_answers w c m l)
            → ◌≡◌ {A = List Given} (record { ask = a; answer = x } ∷ onward x rest [])
            (record { ask = a; answer = u } ∷ onward u (plain_answers w c m l) [])
        go (Ok pa) e gs k = rw (← e) (ap {B = List Given} (λ (n : List Given). record { ask = a; answer = Ok pa } ∷ n) (k gs))
        go (Err f) e gs k = rw (← e)

    pub all_settled : (past : List (Event w)) (m : w.Ram) (s : Step w) → Each (SettledFor w c₀ past m) s.asks
        → answers w (plain_run w c₀ past) m s.asks (tlb_run w c₀ past fresh) ≡ plain_answers w (plain_run w c₀ past) m s.asks
    all_settled past m s ss = same-answers past m s.asks _ (every_history_faithful w laws c₀ zero-asid low past m s) ss

    -- THE CACHE IS INVISIBLE, through a tidy list after a history

    tidy-on : (past : List (Event w)) (x : Event w) (rest : List (Event w)) → Tidy w c₀ past (x ∷ rest) → Tidy w c₀ (past ++ x ∷ []) rest
    tidy-on past x rest tidy before m s later split =
        rw (append_assoc past (x ∷ []) before) (tidy (x ∷ before) m s later (ap {B = List (Event w)} (λ l. x ∷ l) split))

    pub rest-invisible : (past rest : List (Event w)) → Tidy w c₀ past rest
        → answers_run w (plain_run w c₀ past) rest (tlb_run w c₀ past fresh) ≡ plain_answers_run w (plain_run w c₀ past) rest
    rest-invisible past [] tidy = refl
    rest-invisible past (steps m s ∷ rest) tidy =
        ap₂ {B = List Given} {C = List Given} ◌++◌
        (all_settled past m s (rw (append-nil past) at (tidy [] m s rest refl)))
        (rw (plain-append w c₀ past (steps m s ∷ []), tlb-append w c₀ past (steps m s ∷ []) fresh) at
        (rest-invisible (past ++ steps m s ∷ []) rest (tidy-on past (steps m s) rest tidy)))
    rest-invisible past (receives v ∷ rest) tidy =
        rw (plain-append w c₀ past (receives v ∷ []), tlb-append w c₀ past (receives v ∷ []) fresh) at
        (rest-invisible (past ++ receives v ∷ []) rest (tidy-on past (receives v) rest tidy))

    pub invisible : Invisible w c₀
    invisible list tidy = rest-invisible [] list tidy
