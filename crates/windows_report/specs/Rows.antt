-- The runs of a window by their addresses: the first, and the last, which is the one before the run's end.
use Rattle.std.specs.Prelude.{ℕ, ◌+◌, ◌-◌, ◌*◌, ◌^◌, List, [], ◌∷◌}
use Rattle.word.specs.Bits.{wrap}
use Rattle.windows_report.specs.Runs.{end_of}
use Rattle.windows_report.specs.declared.{run.Run.Run, report.Pages.Pages}

abbrev pub row_of : ℕ → Run → Pages
row_of va r =
    record { va = record { 0 = va }; last = record { 0 = wrap (end_of r va + (2 ^ 64 - 1)) }; pages = r.pages; answer = r.first }

-- each begins where the one before it ends
unfoldable pub rows_from : ℕ → List Run → List Pages
rows_from va [] = []
rows_from va (r ∷ l) = row_of va r ∷ rows_from (end_of r va) l
