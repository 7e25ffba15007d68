-- The translations of a history, from the plain model alone: each one made, at which level, how it was answered and how
-- many descriptors it read. What stands in the counters of a level is the number of those made at it that a line answered,
-- that were walked; and the sums of the four levels move as the Rust's two counters.
use Rattle.std.specs.Prelude.{if◌then◌else◌, Bool, ◌&&◌, List, [], ◌∷◌, ◌++◌, ℕ, ◌+◌, ◌==◌}
use Rattle.std.proofs.Math.Bool.{true, false}
use Rattle.tlb.specs.Asks.{Ask, translates, fetches, address_of, onward}
use Rattle.tlb.specs.Model.{Model}
use Rattle.tlb.specs.Runs.{How, hint_answered, itself, line_answered, walk_answered, how_translated, how_fetched, Totals, rust_counted}
use Rattle.tlb.specs.declared.access.Kind.TheVariants.{Fetch}
use Rattle.history.specs.World.{World, Plain, regime_now, untag_now, access_of}
use Rattle.history.specs.History.{Event, steps, receives, after}
use Rattle.history.specs.ModelRun.{model_ask, model_event}

-- a translation made: what was asked, its level, how the model answered it, and the number of descriptors that it read
pub record Made : Type 0 where
  pub ask : Ask
  pub level : ℕ
  pub how : How
  pub reads : ℕ

abbrev pub by_line : How → Bool
by_line hint_answered = false
by_line itself = false
by_line line_answered = true
by_line walk_answered = false

abbrev pub by_walk : How → Bool
by_walk hint_answered = false
by_walk itself = false
by_walk line_answered = false
by_walk walk_answered = true

-- n where it was walked; a hint, a line and the address alone read none
abbrev pub read_by : How → ℕ → ℕ
read_by how n = if by_walk how then n else 0

-- how many of a list answer a test
abbrev pub how_many : (Made → Bool) → List Made → ℕ
how_many p [] = 0
how_many p (x ∷ xs) = (if p x then 1 else 0) + how_many p xs

-- how many descriptors they read
abbrev pub reads_of : List Made → ℕ
reads_of [] = 0
reads_of (x ∷ xs) = x.reads + reads_of xs

-- made at the level l, and answered so
abbrev pub at : ℕ → (How → Bool) → Made → Bool
at l so x = l == x.level && so x.how

-- the Rust's two counters after them
abbrev pub rust_after : List Made → Totals → Totals
rust_after [] t = t
rust_after (x ∷ xs) t = rust_after xs (rust_counted x.how t)

module _ (w : World) where
  abbrev pub how_asked : Plain w → w.Ram → Ask → Model → How
  how_asked c m (translates k va) u = how_translated (access_of w c m k va) u
  how_asked c m (fetches va) u = how_fetched (access_of w c m Fetch va) u

  -- one translation
  abbrev pub made : Plain w → w.Ram → Ask → Model → Made
  made c m a u =
      record {
        ask = a;
        level = c.privilege.level;
        how = how_asked c m a u;
        reads = read_by (how_asked c m a u) (w.reads c.regs m (regime_now w c) (untag_now w c (address_of a)));
      }

  -- those of a step, in order until one faults; of a history
  abbrev pub made_in : Plain w → w.Ram → List Ask → Model → List Made
  made_in c m [] u = []
  made_in c m (a ∷ l) u =
      made c m a u ∷ onward (model_ask w c m a u).answer (made_in c m l (model_ask w c m a u).after) []

  abbrev pub made_run : Plain w → List (Event w) → Model → List Made
  made_run c [] u = []
  made_run c (steps m s ∷ xs) u = made_in c m s.asks u ++ made_run (after w s.effect c) xs (model_event w (steps m s) c u)
  made_run c (receives v ∷ xs) u = made_run c xs (model_event w (receives v) c u)
