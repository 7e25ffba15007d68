-- Steps of the pages that two windows share.
use Rattle.std.proofs.Common.{◌≡◌, refl, ap, sym, ◌∙◌, ◌+◌, ◌<◌, ◌≤◌, ℕ, List, [], ◌∷◌, ◌++◌, append_assoc, drop, length, Option, Some, None}
use Rattle.std.specs.Prelude.{slice_index_or, option_to_list}
use Rattle.std.proofs.lemmas.List.{append-nil, at_drop_more, at_drop_all}
use Rattle.tlb.specs.Answers.{Answer}
use Rattle.windows_report.specs.Shared.{shared_at, shared_from}
use Rattle.windows_report.specs.declared.shared.Shared.{Shared}

module _ (first second : List Answer) where
  -- what the pages from j on share
  abbrev pub left : ℕ → List Shared
  left j = shared_from j (drop j first) second

  left-more : (j : ℕ) (d : Answer) → j < length first
      → left j ≡ option_to_list (shared_at second j (slice_index_or first j d)) ++ left (j + 1)
  unfolding shared_from
  left-more j d h = at_drop_more (λ (l : List Answer). shared_from j l second) first j d h

  -- a page that is shared goes behind those before it, and one that is not changes nothing
  pub step : (all : List Shared) (j : ℕ) (d : Answer) (o : Option Shared) → j < length first
      → o ≡ shared_at second j (slice_index_or first j d) → left 0 ≡ all ++ left j → left 0 ≡ (all ++ option_to_list o) ++ left (j + 1)
  step all j d o h e inv =
      inv ∙ ap (λ (l : List Shared). all ++ l) (left-more j d h)
      ∙ ap (λ (p : Option Shared). all ++ (option_to_list p ++ left (j + 1))) (sym e)
      ∙ sym (append_assoc all (option_to_list o) (left (j + 1)))

  -- behind the last nothing is left
  pub whole : (all : List Shared) (j : ℕ) → length first ≤ j → left 0 ≡ all ++ left j → all ≡ left 0
  unfolding shared_from
  whole all j h inv =
      sym (append-nil all) ∙ sym (ap (λ (l : List Shared). all ++ l) (at_drop_all (λ (l : List Answer). shared_from j l second) first j h))
      ∙ sym inv
