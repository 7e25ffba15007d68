-- The plain model over a history: what each event does to it and what it answers, by the model's own functions; and
-- that the cache of History.antt does the same, answers, counters and what is pending included.
use Rattle.std.specs.Prelude.{if◌then◌else◌, ◌≡◌, List, [], ◌∷◌, ◌++◌, ℕ, ◌==◌}
use Rattle.std.proofs.Math.Bool.{true, false}
use Rattle.tlb.specs.Answers.{Outcome}
use Rattle.tlb.specs.Model.{Model, invalidate, retag, broadcast, translate, fetch}
use Rattle.tlb.specs.Live.{live, WellFormed}
use Rattle.tlb.specs.Asks.{Ask, translates, fetches, Given, onward}
use Rattle.tlb.specs.declared.{Tlb.Tlb}
use Rattle.tlb.specs.declared.access.Kind.TheVariants.{Fetch}
use Rattle.tlb.specs.declared.Inval.TheVariants.{All}
use Rattle.history.specs.World.{World, Plain, access_of}
use Rattle.history.specs.History.{Effect, nothing, carries, writes, sets, Event, steps, receives, after, after_event}

module _ (w : World) where
  -- a translation: its answer, and the model after it
  abbrev pub model_ask : Plain w → w.Ram → Ask → Model → Outcome Model
  model_ask c m (translates k va) u = translate (access_of w c m k va) u
  model_ask c m (fetches va) u = fetch (access_of w c m Fetch va) u

  -- a step's translations, in order until one faults
  abbrev pub model_answers : Plain w → w.Ram → List Ask → Model → List Given
  model_answers c m [] u = []
  model_answers c m (a ∷ l) u =
      record { ask = a; answer = (model_ask c m a u).answer }
      ∷ onward (model_ask c m a u).answer (model_answers c m l (model_ask c m a u).after) []

  abbrev pub model_asks : Plain w → w.Ram → List Ask → Model → Model
  model_asks c m [] u = u
  model_asks c m (a ∷ l) u =
      onward (model_ask c m a u).answer (model_asks c m l (model_ask c m a u).after) (model_ask c m a u).after

  -- A register write does `write_reg`; then, where `shaping` changed, it flushes; then, where `asid` differs
  -- from the cache's, it retags." A flush is an All.
  unfoldable pub model_flushed : w.Regs → w.Regs → Model → Model
  model_flushed R S u = if w.same-shape R S then u else invalidate All u

  unfoldable pub model_retagged : ℕ → Model → Model
  model_retagged a u = if u.asid == a then u else retag a u

  -- A TLBI is carried out; one of an Inner Shareable form is left pending for other cores too.
  abbrev pub model_after : Effect w → Plain w → Model → Model
  model_after nothing c u = u
  model_after (carries v false) c u = invalidate v u
  model_after (carries v true) c u = broadcast v (invalidate v u)
  model_after (writes R) c u = model_retagged (w.asid R) (model_flushed c.regs R u)
  model_after (sets privilege low) c u = u

  -- what is received from another core is carried out, and not passed on
  abbrev pub model_event : Event w → Plain w → Model → Model
  model_event (steps m s) c u = model_after s.effect c (model_asks c m s.asks u)
  model_event (receives v) c u = invalidate v u

  abbrev pub model_run : Plain w → List (Event w) → Model → Model
  model_run c [] u = u
  model_run c (x ∷ xs) u = model_run (after_event w x c) xs (model_event x c u)

  -- the answers to all translations of a history, in order
  abbrev pub model_answers_run : Plain w → List (Event w) → Model → List Given
  model_answers_run c [] u = []
  model_answers_run c (steps m s ∷ xs) u =
      model_answers c m s.asks u ++ model_answers_run (after w s.effect c) xs (model_event (steps m s) c u)
  model_answers_run c (receives v ∷ xs) u = model_answers_run c xs (model_event (receives v) c u)

-- THE CACHE DOES THE SAME

-- a well-formed cache that stands for the model u
pub record StandsFor (t : Tlb) (u : Model) : Type 0 where
  pub well : WellFormed t
  pub is : live t ≡ u
