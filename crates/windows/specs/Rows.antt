-- Rows of physical pages.
use Rattle.std.specs.Prelude.{◌≡◌, ℕ, ◌<◌, List, [], length, take, slice_index_or}
use Rattle.windows.specs.Window.{window}
use Rattle.windows.specs.declared.list.Window.{Window}

-- the pages of window i: its row begins with as many as it has
abbrev pub row_of : List Window → List (List ℕ) → ℕ → List ℕ
row_of ws rows i = take (window ws i).pages (slice_index_or rows i [])

-- each window's row begins with these
abbrev pub EachRow : List Window → List (List ℕ) → (ℕ → List ℕ) → Type 0
EachRow ws rows pages = (i : ℕ) → i < length ws → row_of ws rows i ≡ pages i
