-- Steps of a window's runs by their addresses.
use Rattle.std.proofs.Common.{◌≡◌, refl, ap, sym, ◌∙◌, ◌+◌, ◌<◌, ◌≤◌, ℕ, List, [], ◌∷◌, ◌++◌, append_assoc, drop, length}
use Rattle.std.specs.Prelude.{slice_index_or}
use Rattle.std.proofs.lemmas.List.{append-nil, at_drop_more, at_drop_all}
use Rattle.windows_report.specs.Runs.{end_of}
use Rattle.windows_report.specs.Rows.{row_of, rows_from}
use Rattle.windows_report.specs.declared.{run.Run.Run, report.Pages.Pages}

module _ (runs : List Run) (start : ℕ) where
  -- one row more, and its run's end
  pub step : (all : List Pages) (va i : ℕ) (d : Run) (row : Pages) (end : ℕ) → i < length runs
      → row ≡ row_of va (slice_index_or runs i d) → end ≡ end_of (slice_index_or runs i d) va
      → rows_from start runs ≡ all ++ rows_from va (drop i runs)
      → rows_from start runs ≡ (all ++ row ∷ []) ++ rows_from end (drop (i + 1) runs)
  unfolding rows_from
  step all va i d row end h e f inv =
      inv ∙ ap (λ (l : List Pages). all ++ l) (at_drop_more (rows_from va) runs i d h)
      ∙ ap (λ (n : ℕ). all ++ (row_of va (slice_index_or runs i d) ∷ rows_from n (drop (i + 1) runs))) (sym f)
      ∙ ap (λ (r : Pages). all ++ (r ∷ rows_from end (drop (i + 1) runs))) (sym e)
      ∙ sym (append_assoc all (row ∷ []) (rows_from end (drop (i + 1) runs)))

  -- behind the last nothing is left
  pub whole : (all : List Pages) (va i : ℕ) → length runs ≤ i → rows_from start runs ≡ all ++ rows_from va (drop i runs)
      → all ≡ rows_from start runs
  unfolding rows_from
  whole all va i h inv =
      sym (append-nil all) ∙ sym (ap (λ (l : List Pages). all ++ l) (at_drop_all (rows_from va) runs i h)) ∙ sym inv
