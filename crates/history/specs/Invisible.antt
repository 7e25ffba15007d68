-- The corollary to read first: where no table is changed without the matching TLBI, the cache is invisible.
use Rattle.std.specs.Prelude.{◌≡◌, List, [], ◌∷◌, ◌++◌}
use Rattle.tlb.specs.Live.{Each}
use Rattle.tlb.specs.Tlb.{fresh}
use Rattle.tlb.specs.Asks.{Ask, kind_of, address_of, Given, onward}
use Rattle.tlb.specs.declared.Tlb.{Tlb}
use Rattle.history.specs.World.{World, Plain, uncached}
use Rattle.history.specs.History.{Step, Event, steps, receives, after_event, answers, tlb_event, SettledFor}

module _ (w : World) where
  -- the answers of the core without a cache to a step's translations
  abbrev pub plain_answers : Plain w → w.Ram → List Ask → List Given
  plain_answers c m [] = []
  plain_answers c m (a ∷ l) =
      record { ask = a; answer = uncached w c m (kind_of a) (address_of a) }
      ∷ onward (uncached w c m (kind_of a) (address_of a)) (plain_answers c m l) []

  -- every answer of a list: with the cache, and without
  abbrev pub answers_run : Plain w → List (Event w) → Tlb → List Given
  answers_run c [] t = []
  answers_run c (steps m s ∷ xs) t =
      answers w c m s.asks t ++ answers_run (after_event w (steps m s) c) xs (tlb_event w (steps m s) c t)
  answers_run c (receives v ∷ xs) t = answers_run c xs (tlb_event w (receives v) c t)

  abbrev pub plain_answers_run : Plain w → List (Event w) → List Given
  plain_answers_run c [] = []
  plain_answers_run c (steps m s ∷ xs) = plain_answers c m s.asks ++ plain_answers_run (after_event w (steps m s) c) xs
  plain_answers_run c (receives v ∷ xs) = plain_answers_run c xs

  -- No table is changed without the matching TLBI, in a list after the history `past`: at each step, of each page that
  -- it translates, each earlier walk that no invalidation since covers, global or under the ASID of now, equals the
  -- page's walk now.
  abbrev pub Tidy : Plain w → List (Event w) → List (Event w) → Type 0
  Tidy c₀ past list =
      (before : List (Event w)) (m : w.Ram) (s : Step w) (later : List (Event w)) →
      list ≡ before ++ steps m s ∷ later →
      Each (SettledFor w c₀ (past ++ before) m) s.asks

  -- Then every answer of the list is that of the core without a cache.
  abbrev pub Invisible : Plain w → Type 0
  Invisible c₀ = (list : List (Event w)) → Tidy c₀ [] list → answers_run c₀ list fresh ≡ plain_answers_run c₀ list
