-- Pages and the descriptors that walks of them read, counted modulo 2^64.
use Rattle.std.specs.Prelude.{if◌then◌else◌, ℕ, ◌+◌, ◌%◌, ◌^◌, ◌==◌, ◌&&◌, Bool, List, [], ◌∷◌, ◌++◌, Option, Some, None, slice_set, slice_index_or, sum_by}
use Rattle.std.specs.List.{position}
use Rattle.sysreg.specs.Regs.{index_of}
use Rattle.reads_report.specs.declared.rows.{Page.Page, Row.Row}

-- whether two are one page
abbrev pub same : Page → Page → Bool
same p q = p.level == q.level && (index_of p.regime == index_of q.regime && p.number == q.number)

-- A ROW MORE

abbrev pub begun : Page → Row
begun p = record { page = p; operations = 0; descriptors = 0 }

-- one operation more, which read so many descriptors
abbrev pub more : ℕ → Row → Row
more n r = record r { operations = (r.operations + 1) % 2 ^ 64; descriptors = (r.descriptors + n) % 2 ^ 64 }

abbrev pub noted_at : Option ℕ → Page → ℕ → List Row → List Row
noted_at (Some place) p n rows = slice_set rows place (more n (slice_index_or rows place (begun p)))
noted_at None p n rows = rows ++ more n (begun p) ∷ []

-- an operation is counted in its page's row, which begins at 0 and behind the others
abbrev pub noted : Page → ℕ → List Row → List Row
noted p n rows = noted_at (position (λ (r : Row). same p r.page) rows) p n rows

-- SUMS

abbrev pub operations_in : List Row → ℕ
operations_in rows = sum_by (λ (r : Row). r.operations) rows % 2 ^ 64

abbrev pub descriptors_in : List Row → ℕ
descriptors_in rows = sum_by (λ (r : Row). r.descriptors) rows % 2 ^ 64

-- over the rows of one level
abbrev pub of_level : ℕ → List Row → ℕ
of_level level rows = sum_by (λ (r : Row). if r.page.level == level then r.descriptors else 0) rows % 2 ^ 64

-- over the rows of one page
abbrev pub descriptors_of : Page → List Row → ℕ
descriptors_of p rows = sum_by (λ (r : Row). if same r.page p then r.descriptors else 0) rows % 2 ^ 64
