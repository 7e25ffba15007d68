-- Windows by their numbers, and what stands first in a list.
use Rattle.std.specs.Prelude.{ℕ, List, [], ◌∷◌, Option, Some, None, slice_index_or}
use Rattle.word.specs.Tables.{table}
use Rattle.windows.specs.declared.list.Window.{Window}

abbrev pub none : Window
none = record { start = 0; pages = 0 }

-- window i of a list; one past the last has no pages
abbrev pub window : List Window → ℕ → Window
window ws i = slice_index_or ws i none

-- the numbers below n, in order
abbrev pub below : ℕ → List ℕ
below n = table n (λ i. i)

-- the first of a list
abbrev pub first_in : {A : Type 0} → List A → Option A
first_in [] = None
first_in (x ∷ xs) = Some x
