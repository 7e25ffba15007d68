-- After every history each answer comes from where Origin.antt says.
use Rattle.std.proofs.Common.{rules, sym, ◌∙◌, inl, inr}
use Rattle.std.specs.Prelude.{◌≡◌, refl, true, List, [], ◌∷◌, ◌⊎◌, ◌≤◌, Ok, Err}
use Rattle.tlb.specs.Live.{Each, done, more}
use Rattle.tlb.specs.Tlb.{fresh}
use Rattle.tlb.specs.Model.{Model}
use Rattle.tlb.specs.Asks.{Ask, kind_of, address_of, onward}
use Rattle.tlb.specs.Answers.{Answer}
use Rattle.history.specs.World.{World, Laws, Plain, regime_now, page_now}
use Rattle.history.specs.History.{Step, Event, plain_run, drops_run, answers, tlb_run}
use Rattle.history.specs.ModelRun.{model_ask, model_answers}
use Rattle.history.proofs.ModelLaws.{history-answers}
use Rattle.history.proofs.Traced.{Moment, at, Traced, traced-at}
use Rattle.history.proofs.Right.{Answered, itself, by, failed, Done}
use Rattle.history.proofs.Theorem.{ask-done, moments, Uncovered, Found, found, history-traced}
use Rattle.history.specs.Origin.{now, then, From, flat, fails, walks}

module _ (w : World) (laws : Laws w) (c₀ : Plain w) (zero-asid : w.asid c₀.regs ≡ 0) (low : c₀.privilege.level ≤ 3) where
  module _ (past : List (Event w)) (m : w.Ram) where
    abbrev c : Plain w
    c = plain_run w c₀ past

    abbrev h : List (Moment w)
    h = moments w laws c₀ past []

    from : (a : Ask) (x : Answer) → Answered w laws (at c.regs m ∷ h) c m (kind_of a) (address_of a) x → From w c₀ past m a x
    from a x (itself o e) = flat o e
    from a x (failed code o f e) = fails code o f e
    from a x (by ℓ i o (inl k) d e) = walks c.regs m [] (now refl refl) ℓ k.is-on k.leaf (inr refl) done e
    from a x (by ℓ i o (inr k) d e) = go (found w laws past c₀ [] k)
      where
        go : Found w laws c₀ past (regime_now w c) (page_now w c (address_of a)) ℓ i
            ⊎ (Uncovered w laws (page_now w c (address_of a)) ℓ i (drops_run w c₀ past) × ⊥) → From w c₀ past m a x
        go (inr z) = absurd z.1
        go (inl f) =
            walks (plain_run w c₀ f.before).regs f.ram _ (then f.before f.step f.later f.split refl) ℓ f.walks.is-on f.walks.leaf
            (day d) (rw f.walks.under at f.spared) e
          where
            day : (ℓ.global ≡ true) ⊎ (i ≡ w.asid c.regs) → (ℓ.global ≡ true) ⊎ (w.asid (plain_run w c₀ f.before).regs ≡ w.asid c.regs)
            day (inl g) = inl g
            day (inr y) = inr (sym f.walks.under ∙ y)

    all_from : (l : List Ask) (u : Model) → Traced w (at c.regs m ∷ h) c.regs u
        → Each (λ g. From w c₀ past m g.ask g.answer) (model_answers w c m l u)
    all_from [] u s = done
    all_from (a ∷ l) u s =
        more (from a (model_ask w c m a u).answer next.answered) (go (model_ask w c m a u).answer (all_from l (model_ask w c m a u).after next.traced))
      where
        next : Done w laws (at c.regs m ∷ h) c m (kind_of a) (address_of a) (model_ask w c m a u)
        next = ask-done w laws h c m u s a

        go : (x : Answer) → Each (λ g. From w c₀ past m g.ask g.answer) (model_answers w c m l (model_ask w c m a u).after)
            → Each (λ g. From w c₀ past m g.ask g.answer) (onward x (model_answers w c m l (model_ask w c m a u).after) [])
        go (Ok pa) rest = rest
        go (Err f) rest = done

  -- After every history, whatever the RAM, each answer comes from there.
  pub origin : (past : List (Event w)) (m : w.Ram) (s : Step w)
      → Each (λ g. From w c₀ past m g.ask g.answer) (answers w (plain_run w c₀ past) m s.asks (tlb_run w c₀ past fresh))
  origin past m s = search (rules, history-answers, all_from, traced-at, history-traced)
