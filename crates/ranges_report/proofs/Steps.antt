-- A list that says where addresses are mapped up to one, and what a walk from there on adds to it.
use Rattle.std.specs.Prelude.{if◌then◌else◌, ◌≡◌, not, ◌||◌, nat_lt, ℕ, ◌+◌, ◌-◌, ◌≤◌, List, [], ◌∷◌, ◌++◌, Option, Some, None}
use Rattle.std.proofs.Common.{arith, ltb-true, ltb-false}
use Rattle.ranges_report.specs.Place.{Place, map_at, ahead, Maps}
use Rattle.ranges_report.specs.declared.map.Mapped.{Mapped}
use Rattle.ranges_report.proofs.Lists.{map-append, map-in, map-below, map-above}

-- of an interval that is empty an empty list says all
pub maps-nothing : (place : ℕ → Option Place) (from end : ℕ) → end ≤ from → Maps place from end []
unfolding map_at
maps-nothing place from end h va = grind (arith, ltb-true, ltb-false)

module _ (place : ℕ → Option Place) (from at last : ℕ) (low : from ≤ at) (high : at ≤ last)
    (holds : (va : ℕ) → at ≤ va → va ≤ last → place va ≡ ahead (place at) (va - at)) (l : List Mapped) (maps : Maps place from at l) where
  -- what of an address the longer interval asks
  abbrev asked : ℕ → ℕ → Option Place
  asked end va = if nat_lt va from || not (nat_lt va end) then None else place va

  -- a leaf is: a range is added
  module _ (p : Place) where
    abbrev next : Mapped
    next = record { first = at; last = last; pa = p.pa; attributes = p.attributes }

    pub maps-some : (new : List Mapped) → place at ≡ Some p → ((va : ℕ) → map_at new va ≡ map_at (l ++ next ∷ []) va) → Maps place from (last + 1) new
    maps-some new e added va = grind (arith, added va, map-append l (next ∷ []) va, maps va, holds va, map-below next va, map-above next va, map-in next va, ltb-true, ltb-false)
