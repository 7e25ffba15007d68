-- Where an address is mapped: by its walk, and by a list of ranges.
use Rattle.std.specs.Prelude.{if◌then◌else◌, ◌≡◌, not, ◌||◌, nat_lt, ℕ, ◌+◌, ◌-◌, ◌≤◌, ◌<◌, List, [], ◌∷◌, ◌++◌, Option, Some, None, Ok, Err}
use Rattle.walk.specs.Descriptor.{attr_indx, ns, sh}
use Rattle.walk.specs.Walk.{walk_of}
use Rattle.walk.specs.Answers.{Walked}
use Rattle.walk.specs.declared.{regime.Bank.Bank, level.Leaf.Leaf, fresh.Fresh.Fresh}
use Rattle.walk.specs.declared.fresh.Fresh.TheVariants.{Flat, Ended}
use Rattle.sysreg.specs.declared.regs.Regime.{Regime}
use Rattle.ranges_report.specs.declared.{map.Attributes.Attributes, map.Mapped.Mapped}

-- what of a leaf holds of all that it maps: rights, level, whether for every ASID, AttrIndx, SH and NS
abbrev pub attributes_of : Leaf → Attributes
attributes_of leaf =
    record { perms = leaf.perms; level = leaf.level; global = leaf.global; index = attr_indx leaf.desc; sharing = sh leaf.desc; ns = ns leaf.desc }

-- a physical address, and these
pub record Place : Type 0 where
  pub pa : ℕ
  pub attributes : Attributes

-- a leaf's; none where the walk ends in a fault
abbrev pub place_of : Walked → Option Place
place_of (Ok leaf) = Some (record { pa = leaf.oa; attributes = attributes_of leaf })
place_of (Err status) = None

-- of an untagged address, by its walk
abbrev pub place_at : Bank → Regime → (ℕ → Option ℕ) → ℕ → Option Place
place_at s r memory va = place_of (walk_of s r va memory)

-- so many bytes further on
abbrev pub ahead : Option Place → ℕ → Option Place
ahead (Some p) k = Some (record p { pa = p.pa + k })
ahead None k = None

-- WHAT A LIST OF RANGES SAYS

abbrev pub range_of : ℕ → ℕ → Leaf → Mapped
range_of first last leaf = record { first = first; last = last; pa = leaf.oa; attributes = attributes_of leaf }

abbrev pub place_in : Mapped → ℕ → Place
place_in m va = record { pa = m.pa + (va - m.first); attributes = m.attributes }

-- of an address: its place in the first range that has it, none where no range has it
unfoldable pub map_at : List Mapped → ℕ → Option Place
map_at [] va = None
map_at (m ∷ l) va = if nat_lt va m.first || nat_lt m.last va then map_at l va else Some (place_in m va)

-- A range ends where the next begins, and maps it on: these two are one
pub record Joins (m next : Mapped) : Type 0 where
  pub some : m.first ≤ m.last
  pub follows : next.first ≡ m.last + 1
  pub goes_on : next.pa ≡ m.pa + (next.first - m.first)
  pub alike : next.attributes ≡ m.attributes

-- a list that says what another and one more range say
abbrev pub Added : List Mapped → Mapped → List Mapped → Type 0
Added old next new = next.first ≤ next.last → (va : ℕ) → map_at new va ≡ map_at (old ++ next ∷ []) va

-- the next, where there is one, begins past the end of this one and does not join it
abbrev pub ApartFrom : Mapped → List Mapped → Type 0
ApartFrom m [] = Unit {0}
ApartFrom m (next ∷ l) = (m.last < next.first) × (Joins m next → ⊥)

-- ranges that have addresses, one after another and as long as can be, all below an end
unfoldable pub Ordered : ℕ → List Mapped → Type 0
Ordered end [] = Unit {0}
Ordered end (m ∷ l) = (m.first ≤ m.last) × (m.last < end) × ApartFrom m l × Ordered end l

-- a list says where each address is mapped from one up to another and not at it, and nothing of any other address
abbrev pub Maps : (ℕ → Option Place) → ℕ → ℕ → List Mapped → Type 0
Maps place from end l = (va : ℕ) → map_at l va ≡ (if nat_lt va from || not (nat_lt va end) then None else place va)

-- FRESH ANSWERS

-- with stage 1 on
abbrev pub fresh_place : Fresh → Option Place
fresh_place (Ended w) = place_of w
fresh_place (Flat pa) = None
