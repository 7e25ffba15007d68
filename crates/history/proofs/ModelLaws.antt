-- Over every history the cache of History.antt does to the plain model what the model's own functions do.
use Rattle.std.proofs.Common.{arith, rules, ap₂, ◌∙◌}
use Rattle.std.specs.Prelude.{◌≡◌, List, [], ◌∷◌, ◌++◌, ℕ, ◌≤◌}
use Rattle.std.proofs.Math.Path.{refl, ap}
use Rattle.std.proofs.Math.Bool.{true, false}
use Rattle.tlb.specs.Tlb.{fresh, invalidated_of, reshaped_of, retagged_of}
use Rattle.tlb.specs.Model.{Model, empty_model, invalidate}
use Rattle.tlb.specs.Live.{live, WellFormed, LeafLevel, Follows}
use Rattle.tlb.proofs.Refines.{fresh-live, fresh-sound, flush-live, flush-sound, invalidate-live, invalidate-sound, retag-live, retag-sound}
use Rattle.tlb.proofs.Refines.{broadcast-live, broadcast-sound}
use Rattle.tlb.proofs.Translations.{translation-follows, fetch-follows}
use Rattle.tlb.specs.Asks.{Ask, translates, fetches, Given}
use Rattle.tlb.specs.declared.{access.Kind.Kind, Tlb.Tlb}
use Rattle.tlb.specs.declared.access.Kind.TheVariants.{Fetch}
use Rattle.history.specs.World.{World, Laws, Plain, regime_now, untag_now, access_of}
use Rattle.history.specs.History.{Effect, nothing, carries, writes, sets, Event, steps, receives, after, after_event, plain_run, answer_of, tlb_ask}
use Rattle.history.specs.History.{answers, tlb_asks, tlb_after, tlb_event, tlb_run}
use Rattle.history.specs.Invisible.{answers_run}
use Rattle.history.proofs.Lists.{event-low, run-low}
use Rattle.history.specs.ModelRun.{model_ask, model_answers, model_asks, model_flushed, model_retagged, model_after, model_event, model_run}
use Rattle.history.specs.ModelRun.{model_answers_run, StandsFor}

module _ (w : World) (laws : Laws w) where
  -- TRANSLATIONS

  module _ (c : Plain w) (m : w.Ram) (low : c.privilege.level ≤ 3) where
    leaf-fits : (k : Kind) (va : ℕ) → LeafLevel (access_of w c m k va).walk
    leaf-fits k va leaf e = laws.leaf-level c.regs m (regime_now w c) (untag_now w c va) leaf e

    pub ask-follows : (a : Ask) (t : Tlb) → WellFormed t → Follows (record { answer = answer_of w c m a t; after = tlb_ask w c m a t }) (model_ask w c m a (live t))
    ask-follows (translates k va) t s = translation-follows (access_of w c m k va) t s (leaf-fits k va) low
    ask-follows (fetches va) t s = fetch-follows (access_of w c m Fetch va) t s (leaf-fits Fetch va) low

    -- the first translation, and the rest of them where it does not fault
    module _ (a : Ask) (l : List Ask) (t : Tlb) (f : Follows (record { answer = answer_of w c m a t; after = tlb_ask w c m a t }) (model_ask w c m a (live t))) where
      more-stands : StandsFor (tlb_asks w c m l (tlb_ask w c m a t)) (model_asks w c m l (live (tlb_ask w c m a t)))
          → StandsFor (tlb_asks w c m (a ∷ l) t) (model_asks w c m (a ∷ l) (live t))
      more-stands rest = search rules

      more-answers : answers w c m l (tlb_ask w c m a t) ≡ model_answers w c m l (live (tlb_ask w c m a t))
          → answers w c m (a ∷ l) t ≡ model_answers w c m (a ∷ l) (live t)
      more-answers rest = grind arith

    asks-stand : (l : List Ask) (t : Tlb) → WellFormed t → StandsFor (tlb_asks w c m l t) (model_asks w c m l (live t))
    asks-stand [] t s = record { well = s; is = refl }
    asks-stand (a ∷ l) t s =
        let f = ask-follows a t s in
        more-stands a l t f (asks-stand l (tlb_ask w c m a t) f.well)

    -- the answers of a step are the model's
    pub answers-live : (l : List Ask) (t : Tlb) → WellFormed t → answers w c m l t ≡ model_answers w c m l (live t)
    answers-live [] t s = refl
    answers-live (a ∷ l) t s =
        let f = ask-follows a t s in
        more-answers a l t f (answers-live l (tlb_ask w c m a t) f.well)

  -- EFFECTS

  flushed-stands : (R S : w.Regs) (t : Tlb) → WellFormed t → StandsFor (reshaped_of t (w.same-shape R S)) (model_flushed w R S (live t))
  unfolding reshaped_of model_flushed
  flushed-stands R S t s = grind (arith, flush-sound, flush-live)

  retagged-stands : (a : ℕ) {t : Tlb} {u : Model} → StandsFor t u → StandsFor (retagged_of t a) (model_retagged w a u)
  unfolding retagged_of model_retagged
  retagged-stands a {t} r = grind (arith, retag-sound, retag-live)

  effect-stands : (e : Effect w) (c : Plain w) (t : Tlb) → WellFormed t → StandsFor (tlb_after w e c t) (model_after w e c (live t))
  unfolding invalidated_of
  effect-stands nothing c t s = record { well = s; is = refl }
  effect-stands (carries v false) c t s = record { well = invalidate-sound t s v; is = invalidate-live t s v }
  effect-stands (carries v true) c t s = grind (arith, broadcast-sound, broadcast-live, invalidate-sound, invalidate-live)
  effect-stands (writes R) c t s = retagged-stands (w.asid R) (flushed-stands c.regs R t s)
  effect-stands (sets privilege low) c t s = record { well = s; is = refl }

  -- EVENTS

  pub event-stands : (x : Event w) (c : Plain w) {t : Tlb} {u : Model} → c.privilege.level ≤ 3 → StandsFor t u
      → StandsFor (tlb_event w x c t) (model_event w x c u)
  event-stands (steps m s) c low r = grind (arith, asks-stand, effect-stands)
  event-stands (receives v) c {t} low r = record { well = invalidate-sound t r.well v; is = invalidate-live t r.well v ∙ ap (invalidate v) r.is }

  -- HISTORIES

  pub run-stands : (past : List (Event w)) (c : Plain w) {t : Tlb} {u : Model} → c.privilege.level ≤ 3 → StandsFor t u
      → StandsFor (tlb_run w c past t) (model_run w c past u)
  run-stands [] c low r = r
  run-stands (x ∷ xs) c low r = run-stands xs (after_event w x c) (event-low w x c low) (event-stands x c low r)

  -- and each answer is the model's
  pub answers-run-live : (past : List (Event w)) (c : Plain w) {t : Tlb} {u : Model} → c.privilege.level ≤ 3 → StandsFor t u
      → answers_run w c past t ≡ model_answers_run w c past u
  answers-run-live [] c low r = refl
  answers-run-live (steps m s ∷ xs) c {t} low r =
      ap₂ {C = List Given} ◌++◌ (answers-live c m low s.asks t r.well ∙ ap (model_answers w c m s.asks) r.is)
      (answers-run-live xs (after w s.effect c) (event-low w (steps m s) c low) (event-stands (steps m s) c low r))
  answers-run-live (receives v ∷ xs) c low r = answers-run-live xs c low (event-stands (receives v) c low r)

  -- A new cache is the empty model.
  pub fresh-stands : StandsFor fresh empty_model
  fresh-stands = record { well = fresh-sound; is = fresh-live }

  -- After every history from a core with a new cache: the plain model, and the model's answers to each translation of
  -- the next step.
  module _ (c₀ : Plain w) (low : c₀.privilege.level ≤ 3) (past : List (Event w)) where
    pub history-model : live (tlb_run w c₀ past fresh) ≡ model_run w c₀ past empty_model
    history-model = (run-stands past c₀ low fresh-stands).is

    pub history-answers : (m : w.Ram) (l : List Ask)
        → answers w (plain_run w c₀ past) m l (tlb_run w c₀ past fresh) ≡ model_answers w (plain_run w c₀ past) m l (model_run w c₀ past empty_model)
    history-answers m l = grind (arith, answers-live, run-low, run-stands, fresh-stands)
