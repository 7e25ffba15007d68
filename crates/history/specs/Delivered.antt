-- A history of a core among several: what it broadcasts is handed on at once, so that nothing is left pending.
use Rattle.std.specs.Prelude.{false, None, List, [], ◌∷◌}
use Rattle.tlb.specs.declared.Tlb.{Tlb}
use Rattle.history.specs.World.{World}
use Rattle.history.specs.History.{Effect, nothing, carries, writes, sets, Event, steps, receives}

-- the cache, with nothing pending for other cores
abbrev pub unpending : Tlb → Tlb
unpending t = record t { broadcast = None }

module _ (w : World) where
  -- an effect that leaves nothing pending; the rest of it is as it was
  abbrev pub handed_on : Effect w → Effect w
  handed_on nothing = nothing
  handed_on (carries v shared) = carries v false
  handed_on (writes R) = writes R
  handed_on (sets privilege low) = sets privilege low

  abbrev pub delivered : Event w → Event w
  delivered (steps m s) = steps m (record { asks = s.asks; effect = handed_on s.effect })
  delivered (receives v) = receives v

  abbrev pub all_delivered : List (Event w) → List (Event w)
  all_delivered [] = []
  all_delivered (x ∷ xs) = delivered x ∷ all_delivered xs
