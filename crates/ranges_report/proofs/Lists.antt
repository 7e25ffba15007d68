-- What a list of ranges says when one is added.
use Rattle.std.specs.Prelude.{◌≡◌, refl, ℕ, ◌+◌, ◌-◌, ◌≤◌, ◌<◌, List, [], ◌∷◌, ◌++◌, Option, Some, None}
use Rattle.std.proofs.Common.{arith, ltb-true, ltb-false, lt-ltb, le-ltb}
use Rattle.ranges_report.specs.Place.{Place, place_in, map_at, Joins}
use Rattle.ranges_report.specs.declared.map.Mapped.{Mapped}

abbrev pub or_else : Option Place → Option Place → Option Place
or_else (Some p) o = Some p
or_else None o = o

-- the first list's word, else the second's
pub map-append : (l k : List Mapped) (va : ℕ) → map_at (l ++ k) va ≡ or_else (map_at l va) (map_at k va)
unfolding map_at
map-append [] k va = refl
map-append (m ∷ l) k va = grind (arith, map-append l k va)

-- what a range says of its own addresses, and of others
pub map-in : (m : Mapped) (va : ℕ) → m.first ≤ va → va ≤ m.last → map_at (m ∷ []) va ≡ Some (place_in m va)
unfolding map_at
map-in m va h k = grind (arith, le-ltb)

pub map-below : (m : Mapped) (va : ℕ) → va < m.first → map_at (m ∷ []) va ≡ None
unfolding map_at
map-below m va h = grind (arith, lt-ltb)

pub map-above : (m : Mapped) (va : ℕ) → m.last < va → map_at (m ∷ []) va ≡ None
unfolding map_at
map-above m va h = grind (arith, lt-ltb)

-- a range whose end is moved up to that of the next, which it joins: both say the same as the two
module _ (m next : Mapped) (joins : Joins m next) (ends : next.first ≤ next.last) (va : ℕ) where
  abbrev joined : Mapped
  joined = record m { last = next.last }

  same-place : next.first ≤ va → place_in joined va ≡ place_in next va
  same-place h =
      let f = joins.follows in
      let s = joins.some in
      let g = joins.goes_on in
      let e : m.pa + (va - m.first) ≡ next.pa + (va - next.first) = omega arith in
      let a = joins.alike in
      cc

  one-said : map_at (joined ∷ []) va ≡ or_else (map_at (m ∷ []) va) (map_at (next ∷ []) va)
  unfolding map_at
  one-said = grind (arith, ltb-true, ltb-false, joins, same-place)

  pub join-added : (l : List Mapped) → map_at (l ++ joined ∷ []) va ≡ map_at ((l ++ m ∷ []) ++ next ∷ []) va
  join-added l = grind (arith, map-append l (joined ∷ []) va, map-append (l ++ m ∷ []) (next ∷ []) va, map-append l (m ∷ []) va, one-said)
