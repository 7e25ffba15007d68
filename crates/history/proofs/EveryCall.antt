-- Faithfulness for lists of calls, proved from a bridge.
use Rattle.std.proofs.Common.{arith, sym, ap, ap₂, subst, ◌∙◌}
use Rattle.std.specs.Prelude.{◌≡◌, refl, List, [], ◌∷◌, ◌++◌, ◌≤◌}
use Rattle.tlb.specs.Live.{Each}
use Rattle.tlb.specs.Tlb.{fresh}
use Rattle.tlb.specs.Asks.{kind_of, address_of, Given}
use Rattle.history.specs.World.{World, Laws, Plain, regime_now, page_now, uncached}
use Rattle.history.proofs.Lists.{plain-append, tlb-append}
use Rattle.history.specs.History.{Step, Event, plain_run, answers, tlb_run, Settled, FaithfulAnswer}
use Rattle.history.proofs.Theorem.{every_history_faithful}
use Rattle.history.specs.Calls.{Machine, Lent, Fed, run, lent_of, bare_run, events_fed, events_run, ShownIn, Shown, shown, plain_of, events_of}
use Rattle.history.specs.Calls.{Bridge, plain_after, EveryCallFaithful}

module _ (w : World) (M : Machine w) where
  -- every list of calls is shown by its run
  pub shown-lent : (c : M.Core) (l : List (Lent w M)) → lent_of w M (shown w M c l) ≡ l
  shown-lent c [] = refl
  shown-lent c (x ∷ l) = ap {B = List (Lent w M)} (λ k. x ∷ k) (shown-lent (M.step c x.ram x.call) l)

  pub shown-shown : (c : M.Core) (l : List (Lent w M)) → Shown w M c (shown w M c l)
  shown-shown c [] = tt
  shown-shown c (x ∷ l) = (refl, shown-shown (M.step c x.ram x.call) l)

module _ (w : World) (M : Machine w) (B : Bridge w M) where
  -- after every list the two cores agree on level, mark, registers and general registers
  pub run-bare : (c : M.Core) (l : List (Lent w M)) → M.bare (run w M c l) ≡ bare_run w M (M.bare c) l
  run-bare c [] = refl
  run-bare c (x ∷ l) =
      run-bare (M.step c x.ram x.call) l ∙ ap (λ (b : M.Bare). bare_run w M b l) (B.bare-is c x.ram x.call)

  -- the steps of a call that is fed are those that the run shows
  pub fed-events : (c : M.Core) (x : Fed w M) → ShownIn w M c x → events_fed w M (M.bare c) x ≡ events_of w M c x.lent.ram x.lent.call
  fed-events c x s = ap (λ (ms : List w.Ram). M.events (M.bare c) x.lent.ram ms x.lent.call) s

  step-plain : (c : M.Core) (x : Fed w M) → ShownIn w M c x
      → plain_of w M (M.step c x.lent.ram x.lent.call) ≡ plain_run w (plain_of w M c) (events_fed w M (M.bare c) x)
  step-plain c x s = grind arith

  step-tlb : (c : M.Core) (x : Fed w M) → ShownIn w M c x
      → M.tlb (M.step c x.lent.ram x.lent.call) ≡ tlb_run w (plain_of w M c) (events_fed w M (M.bare c) x) (M.tlb c)
  step-tlb c x s = grind arith

  -- the steps after the first call
  abbrev rest : M.Core → Fed w M → List (Fed w M) → List (Event w)
  rest c x l = events_run w M (M.bare_step (M.bare c) x.lent.ram x.lent.call) l

  -- what translations read is what the list's steps leave
  pub run-plain : (c : M.Core) (l : List (Fed w M)) → Shown w M c l
      → plain_of w M (run w M c (lent_of w M l)) ≡ plain_run w (plain_of w M c) (events_run w M (M.bare c) l)
  run-plain c [] s = refl
  run-plain c (x ∷ l) s =
      run-plain d l s.1
      ∙ ap₂ (λ (p : Plain w) (b : M.Bare). plain_run w p (events_run w M b l)) (step-plain c x s.0) (B.bare-is c x.lent.ram x.lent.call)
      ∙ sym (plain-append w (plain_of w M c) (events_fed w M (M.bare c) x) (rest c x l))
    where
      d : M.Core
      d = M.step c x.lent.ram x.lent.call

  -- and so is the cache, with its counters and what is pending
  pub run-tlb : (c : M.Core) (l : List (Fed w M)) → Shown w M c l
      → M.tlb (run w M c (lent_of w M l)) ≡ tlb_run w (plain_of w M c) (events_run w M (M.bare c) l) (M.tlb c)
  run-tlb c [] s = refl
  run-tlb c (x ∷ l) s =
      run-tlb d l s.1
      ∙ ap₂ (λ (p : Plain w) (b : M.Bare). tlb_run w p (events_run w M b l) (M.tlb d)) (step-plain c x s.0) (B.bare-is c x.lent.ram x.lent.call)
      ∙ ap (tlb_run w (plain_run w (plain_of w M c) (events_fed w M (M.bare c) x)) (rest c x l)) (step-tlb c x s.0)
      ∙ sym (tlb-append w (plain_of w M c) (events_fed w M (M.bare c) x) (rest c x l) (M.tlb c))
    where
      d : M.Core
      d = M.step c x.lent.ram x.lent.call

  -- what translations read after a list and the steps before in a call
  pub now-plain : (c : M.Core) (l : List (Fed w M)) → Shown w M c l → (before : List (Event w))
      → plain_after w M (M.bare c) l before ≡ plain_run w (plain_of w M c) (events_run w M (M.bare c) l ++ before)
  now-plain c l s before = grind (arith, run-bare, run-plain, plain-append)

  -- A fresh core: a new cache, the ASID 0, a level of 3 at most.
  module _ (laws : Laws w) (c₀ : M.Core) (new : M.tlb c₀ ≡ fresh) (zero-asid : w.asid (plain_of w M c₀).regs ≡ 0)
      (low : (plain_of w M c₀).privilege.level ≤ 3) where
    -- the cache after a list is that of the list's steps on a new one
    pub fresh-run : (list : List (Fed w M)) → Shown w M c₀ list
        → M.tlb (run w M c₀ (lent_of w M list)) ≡ tlb_run w (plain_of w M c₀) (events_run w M (M.bare c₀) list) fresh
    fresh-run list s = run-tlb c₀ list s ∙ ap (tlb_run w (plain_of w M c₀) (events_run w M (M.bare c₀) list)) new

    -- What holds of the answers of every step after every history holds of those of every step of a call after every
    -- list of calls.
    pub lifted : (Q : List (Event w) → w.Ram → Given → Type 0)
        → ((past : List (Event w)) (m : w.Ram) (s : Step w)
        → Each (Q past m) (answers w (plain_run w (plain_of w M c₀) past) m s.asks (tlb_run w (plain_of w M c₀) past fresh)))
        → (list : List (Fed w M)) → Shown w M c₀ list → (before : List (Event w)) (m : w.Ram) (s : Step w)
        → Each (Q (events_run w M (M.bare c₀) list ++ before) m)
        (answers w (plain_after w M (M.bare c₀) list before) m s.asks
        (tlb_run w (plain_after w M (M.bare c₀) list []) before (M.tlb (run w M c₀ (lent_of w M list)))))
    lifted Q h list shows before m s = grind (arith, now-plain, run-bare, run-plain, tlb-append, fresh-run)

    pub every_call_faithful : EveryCallFaithful w M c₀
    every_call_faithful list s x sx before m t later split =
        subst
        (λ (q : Plain w).
        Each
        (λ g.
        Settled w (plain_of w M c₀) (events_run w M (M.bare c₀) list ++ before) m (regime_now w q) (page_now w q (address_of g.ask))
        → g.answer ≡ uncached w q m (kind_of g.ask) (address_of g.ask))
        (answers w (plain_after w M (M.bare c₀) list before) m t.asks
        (tlb_run w (plain_after w M (M.bare c₀) list []) before (M.tlb (run w M c₀ (lent_of w M list))))))
        (sym (now-plain c₀ list s before))
        (lifted (FaithfulAnswer w (plain_of w M c₀)) (every_history_faithful w laws (plain_of w M c₀) zero-asid low) list s before m t)
