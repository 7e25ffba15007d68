-- The rows of a walk that is shown, of which there are four at most.
use Rattle.std.specs.Prelude.{if◌then◌else◌, ℕ, ◌==◌, List, get_or, Option, Some, None}
use Rattle.walk_report.specs.declared.levels.Level.{Level}

-- the level of a row whose descriptor lies at an address, or else what those after it have
abbrev pub level_of : ℕ → Option Level → Option ℕ → Option ℕ
level_of at None after = after
level_of at (Some row) after = if row.at.0 == at then Some row.level else after

-- of the first such row
abbrev pub level_at : ℕ → List (Option Level) → Option ℕ
level_at at rows =
    level_of at (get_or rows 0 None) (level_of at (get_or rows 1 None) (level_of at (get_or rows 2 None) (level_of at (get_or rows 3 None) None)))
