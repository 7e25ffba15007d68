-- The physical pages that are answered to pages of two windows.
use Rattle.std.specs.Prelude.{ℕ, ◌+◌, ◌*◌, ◌/◌, ◌==◌, Bool, false, List, [], ◌∷◌, ◌++◌, Option, None, Ok, Err, position, option_map, option_to_list}
use Rattle.tlb.specs.Answers.{Answer}
use Rattle.windows_report.specs.declared.shared.Shared.{Shared}

-- whether two pages are one physical page
abbrev pub is_one : Answer → Answer → Bool
is_one (Ok pa) (Ok other) = pa / 4096 == other / 4096
is_one (Ok pa) (Err f) = false
is_one (Err f) other = false

-- page j of the first window, by the first page of the second that is the same
abbrev pub shared_at : List Answer → ℕ → Answer → Option Shared
shared_at second j (Ok pa) =
    option_map (λ k. record { pa = record { 0 = pa / 4096 * 4096 }; page_of_first = j; page_of_second = k }) (position (is_one (Ok pa)) second)
shared_at second j (Err f) = None

-- those of all pages, of which the first has number j
unfoldable pub shared_from : ℕ → List Answer → List Answer → List Shared
shared_from j [] second = []
shared_from j (a ∷ first) second = option_to_list (shared_at second j a) ++ shared_from (j + 1) first second
