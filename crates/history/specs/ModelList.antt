-- The plain model of the cache over a list of calls, of any machine.
use Rattle.std.specs.Prelude.{List}
use Rattle.tlb.specs.Model.{Model, empty_model}
use Rattle.history.specs.World.{World}
use Rattle.history.specs.Calls.{Machine, Lent, run}
use Rattle.history.specs.Faithful.{events_by}
use Rattle.history.specs.ModelRun.{model_run, StandsFor}

module _ (w : World) (M : Machine w) (c₀ : M.Core) (b₀ : M.Bare) where
  -- what the steps of the list make of the empty model
  abbrev pub model_by : List (Lent w M) → Model
  model_by list = model_run w (M.plain b₀) (events_by w M c₀ b₀ list) empty_model

  -- after every list from the core c₀, the cache stands for that
  abbrev pub EveryListModelled : Type 0
  EveryListModelled = (list : List (Lent w M)) → StandsFor (M.tlb (run w M c₀ list)) (model_by list)
