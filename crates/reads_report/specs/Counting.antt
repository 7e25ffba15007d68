-- What an operation that is counted changes.
use Rattle.std.specs.Prelude.{if◌then◌else◌, ◌≡◌, ℕ, ◌+◌, ◌%◌, ◌^◌, ◌==◌, List}
use Rattle.reads_report.specs.Rows.{same, noted, operations_in, descriptors_in, descriptors_of, of_level}
use Rattle.reads_report.specs.declared.rows.{Page.Page, Row.Row}

pub record Counts (p : Page) (n : ℕ) (rows : List Row) : Type 0 where
  -- the sums grow by one operation and by what it read
  pub once : operations_in (noted p n rows) ≡ (operations_in rows + 1) % 2 ^ 64
  pub descriptors : descriptors_in (noted p n rows) ≡ (descriptors_in rows + n) % 2 ^ 64
  -- at its page alone, and at its level
  pub page : (q : Page) → descriptors_of q (noted p n rows) ≡ (descriptors_of q rows + (if same p q then n else 0)) % 2 ^ 64
  pub level : (l : ℕ) → of_level l (noted p n rows) ≡ (of_level l rows + (if p.level == l then n else 0)) % 2 ^ 64
