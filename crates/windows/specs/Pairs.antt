-- Pairs of windows, and which share a physical page.
use Rattle.std.specs.Prelude.{ℕ, Bool, List, map, ◌==◌, nat_lt, Option, filter, flat_map, find}
use Rattle.std.specs.List.{list_any}
use Rattle.windows.specs.Window.{below}
use Rattle.windows.specs.declared.Pair.{Pair}

abbrev pub pair : ℕ → ℕ → Pair
pair i k = record { first = i; second = k }

-- the pairs of n windows, each window with those above it: by lower number and then by higher
abbrev pub pairs_of : ℕ → List Pair
pairs_of n = flat_map (λ i. map (pair i) (filter (nat_lt i) (below n))) (below n)

-- two lists of physical pages have one in common
abbrev pub meet : List ℕ → List ℕ → Bool
meet a b = list_any (λ x. list_any (λ y. x == y) b) a

-- the first pair of n windows of these pages that has one in common
abbrev pub first_meeting : ℕ → (ℕ → List ℕ) → Option Pair
first_meeting n pages = find (λ p. meet (pages p.first) (pages p.second)) (pairs_of n)
